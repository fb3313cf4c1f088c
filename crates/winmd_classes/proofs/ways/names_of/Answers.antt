use Rattle.winmd_attributes.specs.Seen.{attribute_seen}
use Rattle.winmd_cells.specs.Seen.{tables_in}
use Rattle.winmd_sets.specs.Attributes.{type_name_of}
use Rattle.winmd_classes.proofs.EachLaws.{each_fails, each_next}
use Rattle.std.proofs.lemmas.Result.{err_from_is_err_and}
use Rattle.winmd_classes.proofs.ways.names_of.Goals as goal

pub loop-attribute-preserved : goal.loop-attribute-preserved
loop-attribute-preserved c =
    let image = c.args.source.now.image in
    each_next (type_name_of (tables_in image)) (attribute_seen image) c.args.attributes.now c.loop-attribute.attribute-index _ c.loop-attribute-test.true c.loop-attribute.names.items c.push.new.self.items c.in_ok-name.name
    c.loop-attribute.invariant c.in_ok-name.ensures c.in_ok-push.ensures.items

pub returns-in_err-name : goal.returns-in_err-name
returns-in_err-name c =
    let image = c.args.source.now.image in
    let p = err_from_is_err_and c.from_residual.result c.from_residual.ensures.1 in
    rw (p.1, p.2) (each_fails (type_name_of (tables_in image)) (attribute_seen image) c.args.attributes.now c.loop-attribute.attribute-index _ c.loop-attribute-test.true c.loop-attribute.names.items c.in_err-name.field-0.0
    c.loop-attribute.invariant c.in_err-name.ensures)
