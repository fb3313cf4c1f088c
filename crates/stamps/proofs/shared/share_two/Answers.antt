use Rattle.std.proofs.Common.{◌+◌, false, take, ◌≡◌, ◌<◌, ◌*◌, refl, sym, subst, ◌∙◌, length, get_or, arith}
use Rattle.std.proofs.lemmas.Option.{slice_get_read}
use Rattle.chains.specs.Graphs.{In, steps_of}
use Rattle.chains.specs.Groups.{graph_of}
use Rattle.chains.proofs.Marking.{In-get_or}
use Rattle.chains.proofs.ClosureLaws.{steps_at}
use Rattle.stamps.proofs.Stamps.{Going, going_none, going_more, only_now, shared_whole}
use Rattle.stamps.proofs.shared.share_two.Goals as goal
use Rattle.stamps.proofs.shared.share_two.Goals.{Then-stamp_all, Else-stamp_all}

pub overflow_add-mine-in-loop-owner : goal.overflow_add-mine-in-loop-owner
overflow_add-mine-in-loop-owner c =
    let within = c.requires.owners (get_or c.args.set.now c.loop-owner.owner-index 0) (In-get_or c.args.set.now c.loop-owner.owner-index (omega arith)) in
    let short = c.requires.short in
    omega (arith, within, short)

pub bounds-owned-owner : goal.bounds-owned-owner
bounds-owned-owner c = c.requires.owners (get_or c.args.set.now c.loop-owner.owner-index 0) (In-get_or c.args.set.now c.loop-owner.owner-index (omega arith))

pub stamp_all-requires : goal.stamp_all-requires
stamp_all-requires c = record {
  within = λ x h.
      let a = get_or c.args.set.now c.loop-owner.owner-index 0 in
      let lo = c.requires.owners a (In-get_or c.args.set.now c.loop-owner.owner-index (omega arith)) in
      let own : steps_of (graph_of c.args.owned.now) a ≡ c.as_slice.result.now = steps_at c.args.owned.now a c.index-owned-owner.result
      (slice_get_read c.args.owned.now (length c.args.owned.now) a c.index-owned-owner.result refl lo c.index-owned-owner.is) ∙ sym c.as_slice.ensures.value in
      let w = c.requires.things a x (subst (In x) (sym own) h) in
      omega (arith, w);
}

pub loop-owner-init : goal.loop-owner-init
loop-owner-init c = going_none (graph_of c.args.owned.now) (c.args.epoch * 4294967296) c.args.stamps.now c.requires.floor

turn_else : (c : Else-stamp_all) → Going (graph_of c.args.owned.now) (c.args.epoch * 4294967296) (take (c.loop-owner.owner-index + 1) c.args.set.now) c.stamp_all.new.stamps c.stamp_all.result
turn_else c =
    let i = c.loop-owner.owner-index in
    let a = get_or c.args.set.now i 0 in
    let l : i < length c.args.set.now = omega arith in
    let lo = c.requires.owners a (In-get_or c.args.set.now i l) in
    let own : c.as_slice.result.now ≡ steps_of (graph_of c.args.owned.now) a = sym (steps_at c.args.owned.now a c.index-owned-owner.result
    (slice_get_read c.args.owned.now (length c.args.owned.now) a c.index-owned-owner.result refl lo c.index-owned-owner.is) ∙ sym c.as_slice.ensures.value) in
    let short = c.requires.short in
    going_more (graph_of c.args.owned.now) (c.args.epoch * 4294967296) c.args.set.now i a l refl (omega (arith, lo, short)) c.loop-owner.stamps c.stamp_all.new.stamps false c.stamp_all.result c.stamp_all.result
    c.loop-owner.invariant
    (rw (sym own) c.stamp_all.ensures.met)
    (λ x h. c.stamp_all.ensures.here x (subst (In x) (sym own) h))
    (λ x n. c.stamp_all.ensures.there x (λ h. n (subst (In x) own h)))
    (only_now c.stamp_all.result)

turn_then : (c : Then-stamp_all) → Going (graph_of c.args.owned.now) (c.args.epoch * 4294967296) (take (c.loop-owner.owner-index + 1) c.args.set.now) c.stamp_all.new.stamps c.stamp_all.result
turn_then c =
    let i = c.loop-owner.owner-index in
    let a = get_or c.args.set.now i 0 in
    let l : i < length c.args.set.now = omega arith in
    let lo = c.requires.owners a (In-get_or c.args.set.now i l) in
    let own : c.as_slice.result.now ≡ steps_of (graph_of c.args.owned.now) a = sym (steps_at c.args.owned.now a c.index-owned-owner.result
    (slice_get_read c.args.owned.now (length c.args.owned.now) a c.index-owned-owner.result refl lo c.index-owned-owner.is) ∙ sym c.as_slice.ensures.value) in
    let short = c.requires.short in
    going_more (graph_of c.args.owned.now) (c.args.epoch * 4294967296) c.args.set.now i a l refl (omega (arith, lo, short)) c.loop-owner.stamps c.stamp_all.new.stamps false c.stamp_all.result c.stamp_all.result
    c.loop-owner.invariant
    (rw (sym own) c.stamp_all.ensures.met)
    (λ x h. c.stamp_all.ensures.here x (subst (In x) (sym own) h))
    (λ x n. c.stamp_all.ensures.there x (λ h. n (subst (In x) own h)))
    (only_now c.stamp_all.result)

pub loop-owner-preserved : goal.loop-owner-preserved
loop-owner-preserved c =
    subst (Going (graph_of c.args.owned.now) (c.args.epoch * 4294967296) (take (c.loop-owner.owner-index + 1) c.args.set.now) c.stamp_all.new.stamps) c.if-stamp_all.false
    (turn_else c)

pub returns-then-stamp_all : goal.returns-then-stamp_all
returns-then-stamp_all c =
    let g = turn_then c in
    record {
      shared = (λ t. shared_whole (graph_of c.args.owned.now) c.args.set.now (c.loop-owner.owner-index + 1) (g.told.0 c.if-stamp_all.true), λ h. refl);
      floor = λ x. (let u = g.upto x in omega (arith, u));
    }
