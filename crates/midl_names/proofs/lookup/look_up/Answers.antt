use Rattle.std.proofs.Common.{◌≡◌, ◌-◌, arith, sym, subst, ◌∙◌, Some, None, IfOk, Option, take}
use Rattle.std.specs.HashMap.{get_by_text}
use Rattle.std.proofs.lemmas.Grind.{common_steps}
use Rattle.midl_names.specs.declared.hit.Hit.{Hit}
use Rattle.midl_names.specs.Items.{prefix}
use Rattle.midl_names.specs.Views.{parts_of}
use Rattle.midl_names.proofs.Lookups.{looked}
use Rattle.midl_names.proofs.Within.{all_levels, last_level, cut_form}
use Rattle.midl_names.proofs.lookup.look_up.Goals as goal

pub more-init : goal.more-init
more-init c = record {
  short = c.in_ok-left.ensures.short;
  text = grind (arith, common_steps);
  rest = all_levels (get_by_text c.args.index.now.sorts) c.args.space.now c.args.path.now c.limit_of.result c.room_in-room.result c.in_ok-left.left c.limit_of.ensures c.room_in-room.ensures c.in_ok-left.ensures.full c.in_ok-left.ensures.short;
}

pub returns-in-Some : goal.returns-in-Some
returns-in-Some c =
    sym (looked (get_by_text c.args.index.now.sorts) c.args.space.now c.args.path.now _ c.more.left (Some c.in-Some.found) (omega arith) (c.as_str.ensures.value ∙ c.more.invariant.text) (sym c.in-Some.is ∙ c.in_ok-found.ensures))
    ∙ c.more.invariant.rest

pub more-preserved : goal.more-preserved
more-preserved c = record {
  short = omega arith;
  text = c.in_ok-cut_part.ensures (prefix (parts_of (take (c.more.left - 1) c.args.space.now)))
      (cut_form c.args.space.now c.more.left c.index-space-left.result _ c.args.path.now (omega arith) c.more.invariant.short c.index-space-left.is c.more.invariant.text);
  rest = sym (looked (get_by_text c.args.index.now.sorts) c.args.space.now c.args.path.now _ c.more.left None (omega arith) (c.as_str.ensures.value ∙ c.more.invariant.text) (sym c.in_default.is ∙ c.in_ok-found.ensures)) ∙ c.more.invariant.rest;
}

pub returns : goal.returns
returns c =
    subst (λ (o : Option Hit). IfOk c.hit-2.result (λ r. r ≡ o))
    (sym (last_level (get_by_text c.args.index.now.sorts) (parts_of c.args.space.now) c.args.path.now c.more.left (omega (arith, c.more-test.false))) ∙ c.more.invariant.rest)
    c.hit-2.ensures
