use Rattle.std.proofs.Common.{◌≡◌, ◌∷◌, [], length, map}
use Rattle.grammar.specs.Readers.{many_at, after_front}
use Rattle.midl_tree.specs.declared.kind.Kind.TheVariants.{Import}
use Rattle.midl_tree.specs.Kinds.{number_of}
use Rattle.midl_tree.specs.Symbols.{kind_of}
use Rattle.midl_parse.specs.ReadImports.{import_at}
use Rattle.midl_parse.proofs.imports.imports_of.Given as goal

abbrev pub invariant-more : goal.invariant-more
invariant-more l = after_front (map (λ v. v.items) l.imports.items) (many_at kind_of (number_of Import ∷ []) import_at) l.rest ≡ many_at kind_of (number_of Import ∷ []) import_at l.fn.tokens

abbrev pub decreases-more : goal.decreases-more
decreases-more l = length l.rest
