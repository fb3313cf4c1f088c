use Rattle.std.proofs.Common.{map, ◌∙◌}
use Rattle.wr_base.specs.Trees.{tree_of}
use Rattle.winmd_uses.specs.Makers.{maker_of}
use Rattle.winmd_names.proofs.NumberLaws.{numbers_exact}
use Rattle.winmd_names.proofs.set_names.SetNames.tokens.Goals as goal

pub returns : goal.returns
returns c =
    let s = c.args.self.now in
    λ i. λ full. (s.numbered full ∙ numbers_exact s.types.types.items s.types.refs.items (map tree_of s.instances.list.items) (map maker_of s.makers.items) full) i
