-- Whole files: tokens have one tree.
use Rattle.std.proofs.Common.{◌≡◌, ℕ, List, Ok, Result, sym, ◌∙◌}
use Rattle.grammar.proofs.Whole.{all_again}
use Rattle.midl_tree.specs.declared.terminal.Terminal.{Terminal}
use Rattle.midl_words.specs.declared.stop.Code.{Code}
use Rattle.midl_words.specs.declared.stop.Code.TheVariants.{Syntax}
use Rattle.midl_tree.specs.Symbols.{kind_of}
use Rattle.midl_tree.specs.Trees.{SourceTree}
use Rattle.midl_parse.specs.Files.{IsSource}
use Rattle.midl_parse.specs.ReadFiles.{source_at, source_with}
use Rattle.midl_parse.specs.ReadAttributes.{attribute_at}
use Rattle.midl_parse.specs.ReadTypes.{base_at}
use Rattle.midl_parse.proofs.DepthLaws.{too_deep}

source_again : (ts : List Terminal) (tree : SourceTree) → IsSource ts tree → source_at ts ≡ Ok tree
unfolding source_at
source_again ts tree = all_again kind_of IsSource (source_with 15 15 attribute_at base_at) Syntax _ _ _ (too_deep 15 15).low ts tree

pub one_source : (ts : List Terminal) (a b : SourceTree) → IsSource ts a → IsSource ts b → a ≡ b
one_source ts a b f g = let e : ◌≡◌ {A = Result SourceTree (Code × ℕ)} (Ok a) (Ok b) = sym (source_again ts a f) ∙ source_again ts b g in cc
