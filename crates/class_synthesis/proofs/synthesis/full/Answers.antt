use Rattle.std.proofs.Common.{List, subst}
use Rattle.ranked.specs.First.{IsFirst}
use Rattle.placed_items.specs.declared.placed.PlacedItem.{PlacedItem}
use Rattle.class_synthesis.specs.Clashes.{IsClash}
use Rattle.class_synthesis.proofs.FullLaws.{cleared, none_first, one_first, not_clear}
use Rattle.class_synthesis.proofs.PlaceLaws.{full_parts}
use Rattle.class_synthesis.proofs.synthesis.full.Goals as goal

pub whole-requires-clause-clear : goal.whole-requires-clause-clear
whole-requires-clause-clear c =
    cleared c.args.placed
    (subst (IsFirst (IsClash c.args.placed)) c.in-None.is (subst (λ (is : List PlacedItem). IsFirst (IsClash is) c.in_ok-refusal.field-0) c.as_slice.ensures c.in_ok-refusal.ensures))

pub returns-in-Some-clause-only : goal.returns-in-Some-clause-only
returns-in-Some-clause-only c = λ clear.
    not_clear c.args.placed c.in-Some.refusal
    (subst (IsFirst (IsClash c.args.placed)) c.in-Some.is (subst (λ (is : List PlacedItem). IsFirst (IsClash is) c.in_ok-refusal.field-0) c.as_slice.ensures c.in_ok-refusal.ensures)) clear

pub returns-in-Some-clause-first : goal.returns-in-Some-clause-first
returns-in-Some-clause-first c = λ e f.
    one_first c.args.placed e c.in-Some.refusal
    (subst (IsFirst (IsClash c.args.placed)) c.in-Some.is (subst (λ (is : List PlacedItem). IsFirst (IsClash is) c.in_ok-refusal.field-0) c.as_slice.ensures c.in_ok-refusal.ensures)) f

pub returns-in_ok-whole-in-None-clause-clear : goal.returns-in_ok-whole-in-None-clause-clear
returns-in_ok-whole-in-None-clause-clear c =
    cleared c.args.placed
    (subst (IsFirst (IsClash c.args.placed)) c.in-None.is (subst (λ (is : List PlacedItem). IsFirst (IsClash is) c.in_ok-refusal.field-0) c.as_slice.ensures c.in_ok-refusal.ensures))

pub returns-in_ok-whole-in-None-clause-first : goal.returns-in_ok-whole-in-None-clause-first
returns-in_ok-whole-in-None-clause-first c = λ e f.
    none_first c.args.placed e
    (subst (IsFirst (IsClash c.args.placed)) c.in-None.is (subst (λ (is : List PlacedItem). IsFirst (IsClash is) c.in_ok-refusal.field-0) c.as_slice.ensures c.in_ok-refusal.ensures)) f

pub returns-in_ok-whole-in-None-clause-places : goal.returns-in_ok-whole-in-None-clause-places
returns-in_ok-whole-in-None-clause-places c = λ has. full_parts c.args.placed c.in_ok-whole-in-None.field-0.types c.in_ok-whole-in-None.field-0.places c.in_ok-whole-in-None.ensures has
