use Rattle.std.proofs.Common.{map, ◌∙◌}
use Rattle.wr_base.specs.Trees.{tree_of}
use Rattle.winmd_uses.specs.Makers.{maker_of}
use Rattle.winmd_names.specs.Seen.{seen}
use Rattle.winmd_names.proofs.LookupLaws.{named_at, never_none}
use Rattle.winmd_names.proofs.NumberLaws.{numbers_exact}
use Rattle.winmd_names.proofs.set_names.SetNames.named_row.Goals as goal

pub returns-in-Ok : goal.returns-in-Ok
returns-in-Ok c =
    let s = c.args.self.now in
    named_at (seen s) c.args.name.now c.number.result c.in-Ok.row
    (c.number.ensures ∙ s.numbered c.args.name.now ∙ numbers_exact s.types.types.items s.types.refs.items (map tree_of s.instances.list.items) (map maker_of s.makers.items) c.args.name.now) c.in-Ok.ensures

pub returns-in-Err : goal.returns-in-Err
returns-in-Err c =
    let s = c.args.self.now in
    absurd (never_none (seen s) c.args.name.now c.number.result
    (c.number.ensures ∙ s.numbered c.args.name.now ∙ numbers_exact s.types.types.items s.types.refs.items (map tree_of s.instances.list.items) (map maker_of s.makers.items) c.args.name.now) c.in-Err.ensures)
