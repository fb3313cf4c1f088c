use Rattle.std.proofs.Common.{sym, ◌∙◌, map}
use Rattle.std.proofs.lemmas.Result.{err_from_is_err_and}
use Rattle.midl_tree.specs.Views.{attribute_view}
use Rattle.midl_words.proofs.Turns.{goes_on_by, fails, ends, turn_shorter}
use Rattle.midl_parse.proofs.LoopItems.{attribute_item}
use Rattle.midl_parse.proofs.attributes.more_attributes.Goals as goal

pub returns-in_err-item : goal.returns-in_err-item
returns-in_err-item c =
    let p = err_from_is_err_and c.from_residual.result c.from_residual.ensures.1 in
    rw (p.1, p.2) (fails attribute_item c.in_err-item.field-0.0 (map attribute_view c.more.attributes.items) c.more.rest.now _ (sym c.begins.ensures ∙ c.more-test.true) c.in_err-item.ensures c.more.invariant)

pub more-smaller : goal.more-smaller
more-smaller c = turn_shorter attribute_item c.more.rest.now c.in_ok-item.after.now (attribute_view c.in_ok-item.item) c.in_ok-item.ensures

pub more-preserved : goal.more-preserved
more-preserved c =
    goes_on_by attribute_item attribute_view c.more.attributes.items c.push.new.self.items c.in_ok-item.item c.more.rest.now c.in_ok-item.after.now _ (sym c.begins.ensures ∙ c.more-test.true) c.in_ok-item.ensures c.in_ok-push.ensures.items c.more.invariant

pub returns : goal.returns
returns c = ends attribute_item (map attribute_view c.more.attributes.items) c.more.rest.now _ (sym c.begins.ensures ∙ c.more-test.false) c.more.invariant
