use Rattle.std.proofs.Common.{sym, ◌∙◌, map}
use Rattle.std.proofs.lemmas.Result.{err_from_is_err_and}
use Rattle.midl_tree.specs.Views.{fields_view}
use Rattle.midl_words.proofs.Turns.{goes_on_by, fails, ends, turn_shorter, begun}
use Rattle.midl_parse.proofs.LoopItems.{fields_item}
use Rattle.midl_parse.proofs.structs.all_fields.Goals as goal

pub more-init : goal.more-init
more-init c = rw c.new-groups.ensures.items (begun (fields_item c.args.depth) c.args.tokens.now)

pub returns-in_err-item : goal.returns-in_err-item
returns-in_err-item c =
    let p = err_from_is_err_and c.from_residual.result c.from_residual.ensures.1 in
    rw (p.1, p.2) (fails (fields_item c.args.depth) c.in_err-item.field-0.0 (map fields_view c.more.groups.items) c.more.rest.now _ (sym c.begins_name.ensures ∙ c.more-test.true) c.in_err-item.ensures c.more.invariant)

pub more-smaller : goal.more-smaller
more-smaller c = turn_shorter (fields_item c.args.depth) c.more.rest.now c.in_ok-item.after.now (fields_view c.in_ok-item.item) c.in_ok-item.ensures

pub more-preserved : goal.more-preserved
more-preserved c =
    goes_on_by (fields_item c.args.depth) fields_view c.more.groups.items c.push.new.self.items c.in_ok-item.item c.more.rest.now c.in_ok-item.after.now _ (sym c.begins_name.ensures ∙ c.more-test.true) c.in_ok-item.ensures c.in_ok-push.ensures.items c.more.invariant

pub returns : goal.returns
returns c = ends (fields_item c.args.depth) (map fields_view c.more.groups.items) c.more.rest.now _ (sym c.begins_name.ensures ∙ c.more-test.false) c.more.invariant
