use Rattle.std.proofs.Common.{◌≡◌, ◌∙◌, map, option_map, ap}
use Rattle.winmd_sets.specs.Declared.{lines_of}
use Rattle.winmd_sets.specs.Rows.{interfaces_in_order}
use Rattle.wr_base.specs.Trees.{class, tree_of}
use Rattle.part_rows.specs.Grown.{with_lines}
use Rattle.kind_rows.specs.Said.{said}
use Rattle.kind_rows.proofs.LoopLaws.{on_ok}
use Rattle.declaration_lines.proofs.arranged.put_arranged_class.Goals as goal

pub returns : goal.returns
returns g c =
    let names = g.N.Referred.names c.args.names.now in
    let ordered : map tree_of c.deref.result.now ≡ interfaces_in_order names (map tree_of c.args.has.now) = ap (map tree_of) c.deref.ensures.value ∙ c.in_ok-ordered.ensures in
    on_ok c.put_class.result _ _
    (λ e. e
    ∙ (λ i. with_lines names (lines_of (class c.args.name.now c.args.version c.args.fixed (option_map tree_of c.args.default.now) (ordered i) c.args.direct c.args.factories.now c.args.statics.now)) (said c.args.out.now)))
    c.put_class.ensures
