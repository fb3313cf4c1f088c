use Rattle.std.proofs.Common.{◌∙◌, map, option_map, ap, codes, drop}
use Rattle.row_writer.specs.Known.{Values}
use Rattle.winmd_sets.specs.Declared.{lines_of, system, typed}
use Rattle.wr_base.specs.Trees.{class, tree_of}
use Rattle.part_rows.specs.Grown.{with_line, with_lines}
use Rattle.kind_rows.specs.Said.{said}
use Rattle.kind_rows.proofs.LoopLaws.{on_ok}
use Rattle.class_lines.proofs.classes.put_class.Goals as goal

pub returns : goal.returns
returns g c =
    let names = g.N.Referred.names c.args.names.now in
    let all = lines_of (class c.args.name.now c.args.version c.args.fixed (option_map tree_of c.args.default.now) (map tree_of c.args.has.now) c.args.direct c.args.factories.now c.args.statics.now) in
    on_ok c.put_class_body.result _ _
    (λ e. e ∙ ap (λ (rows : Values). with_lines names (drop 1 all) rows)
    (c.in_ok-put_type.ensures ∙ (λ i. with_line names (typed (c.flags_of.ensures i) c.args.name.now (system (codes "Object"))) (said c.args.out.now))))
    (c.put_class_body.ensures c.args.name.now c.args.fixed)
