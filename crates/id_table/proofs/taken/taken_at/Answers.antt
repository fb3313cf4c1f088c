use Rattle.std.proofs.Common.{◌≡◌, ◌∷◌, [], length, length-append, ap, sym, subst, ◌∙◌, arith}
use Rattle.id_table.specs.Taken.{owner, Taken, at, lists_of}
use Rattle.id_table.proofs.Owners.{before_more, taken_is, answer_more, place_is}
use Rattle.id_table.proofs.taken.taken_at.Goals as goal

pub loop-i-preserved : goal.loop-i-preserved
loop-i-preserved c =
    let own : at (lists_of c.args.places.now) c.loop-i.i ≡ c.as_slice.result.now = place_is c.args.places.now c.loop-i.i c.index-places-i.result (omega arith) c.index-places-i.is ∙ sym c.as_slice.ensures.value in
    let t : Taken (owner c.loop-i.owners) (owner c.take_all.new.owners) (at (lists_of c.args.places.now) c.loop-i.i) c.in_ok-taken.taken =
    subst (λ xs. Taken (owner c.loop-i.owners) (owner c.take_all.new.owners) xs c.in_ok-taken.taken) (sym own) c.in_ok-taken.ensures in
    record {
      before = before_more (owner c.args.owners.now) (owner c.loop-i.owners) (owner c.take_all.new.owners) (lists_of c.args.places.now) c.loop-i.i c.loop-i.invariant.before c.in_ok-taken.taken t;
      length = let s = c.loop-i.invariant.length in omega (arith, s, ap length c.in_ok-push.ensures.items, length-append c.loop-i.on.items (c.in_ok-taken.taken ∷ []));
      taken = answer_more (owner c.args.owners.now) (lists_of c.args.places.now) c.loop-i.i c.loop-i.on.items c.push.new.self.items c.in_ok-taken.taken c.loop-i.invariant.length c.in_ok-push.ensures.items c.loop-i.invariant.taken
          (taken_is (owner c.args.owners.now) (owner c.loop-i.owners) (owner c.take_all.new.owners) (lists_of c.args.places.now) c.loop-i.i c.loop-i.invariant.before c.in_ok-taken.taken t c.requires.plain);
    }
