use Rattle.std.proofs.Common.{map}
use Rattle.winmd_attributes.specs.Seen.{attribute_seen}
use Rattle.winmd_cells.specs.Seen.{tables_in}
use Rattle.winmd_sets.specs.Classes.{making_of}
use Rattle.winmd_classes.specs.Seen.{making_seen}
use Rattle.winmd_classes.proofs.EachLaws.{each_fails, each_more}
use Rattle.std.proofs.lemmas.Result.{err_from_is_err_and}
use Rattle.winmd_classes.proofs.makings.makings_of.Goals as goal

pub loop-attribute-preserved : goal.loop-attribute-preserved
loop-attribute-preserved c =
    let image = c.args.source.now.image in
    each_more (making_of (tables_in image)) (attribute_seen image) c.args.attributes.now c.loop-attribute.attribute-index _ c.loop-attribute-test.true making_seen c.loop-attribute.makings.items c.push.new.self.items c.in_ok-making.making
    c.loop-attribute.invariant c.in_ok-making.ensures c.in_ok-push.ensures.items

pub returns-in_err-making : goal.returns-in_err-making
returns-in_err-making c =
    let image = c.args.source.now.image in
    let p = err_from_is_err_and c.from_residual.result c.from_residual.ensures.1 in
    rw (p.1, p.2) (each_fails (making_of (tables_in image)) (attribute_seen image) c.args.attributes.now c.loop-attribute.attribute-index _ c.loop-attribute-test.true (map making_seen c.loop-attribute.makings.items) c.in_err-making.field-0.0
    c.loop-attribute.invariant c.in_err-making.ensures)
