-- Repeats along a list that is seen through a function, by another text that tells the key.
use Rattle.std.proofs.Common.{◌≡◌, ◌<◌, ℕ, List, Option, Some, None, Result, Ok, Err, IfOk, map, slice_get, refl, sym, ap, subst, ◌∙◌}
use Rattle.std.specs.Option.{option_map}
use Rattle.std.proofs.lemmas.Option.{slice_get-map, same_Some, none-some}
use Rattle.std.proofs.lemmas.List.{length-map}
use Rattle.ranked.specs.Entries.{Entry}
use Rattle.ranked.specs.First.{IsFirst, Below, At, Only}
use Rattle.ranked.specs.Repeats.{StandsBefore, Repeated}
use Rattle.ranked.proofs.FirstLaws.{same}

origin : {X Y : Type 0} (f : X → Y) (o : Option X) (y : Y) → option_map f o ≡ Some y → (x : X) × (o ≡ Some x) × (f x ≡ y)
origin f None y e = absurd (none-some y e)
origin f (Some x) y e = (x, refl, same_Some (f x) y e)

module _ {X Y : Type 0} (f : X → Y) (text : X → List ℕ) (key : Y → List ℕ) (tells : (x y : X) → text x ≡ text y → key (f x) ≡ key (f y)) (told : (x y : X) → key (f x) ≡ key (f y) → text x ≡ text y)
    (entry : Y → Entry) (xs : List X) where
  seen : (k : ℕ) (x : X) → slice_get xs k ≡ Some x → slice_get (map f xs) k ≡ Some (f x)
  seen k x e = slice_get-map f xs k ∙ ap (option_map f) e

  unseen : (k : ℕ) (y : Y) → slice_get (map f xs) k ≡ Some y → (x : X) × (slice_get xs k ≡ Some x) × (f x ≡ y)
  unseen k y e = origin f (slice_get xs k) y (sym (slice_get-map f xs k) ∙ e)

  before_to : (k : ℕ) (x : X) → StandsBefore text xs k (text x) → StandsBefore key (map f xs) k (key (f x))
  before_to k x s = (s.0, f s.1, s.2, seen s.0 s.1 s.3, tells s.1 x s.4)

  before_from : (k : ℕ) (x : X) → StandsBefore key (map f xs) k (key (f x)) → StandsBefore text xs k (text x)
  before_from k x s = let o = unseen s.0 s.1 s.3 in (s.0, o.0, s.2, o.1, told o.0 x (ap key o.2 ∙ s.4))

  to : (e : Entry) → Repeated text (λ x. entry (f x)) xs e → Repeated key entry (map f xs) e
  unfolding Below At Only
  to e b = (b.0, subst (λ n. b.0 < n) (sym (length-map xs f)) b.1, (f b.2.0, seen b.0 b.2.0 b.2.1, (before_to b.0 b.2.0 b.2.2.0, b.2.2.1)))

  from : (e : Entry) → Repeated key entry (map f xs) e → Repeated text (λ x. entry (f x)) xs e
  unfolding Below At Only
  from e b =
      let o = unseen b.0 b.2.0 b.2.1 in
      (b.0, subst (λ n. b.0 < n) (length-map xs f) b.1, (o.0, o.1, (before_from b.0 o.0 (subst (λ y. StandsBefore key (map f xs) b.0 (key y)) (sym o.2) b.2.2.0), b.2.2.1 ∙ ap entry (sym o.2))))

  pub viewed_repeats : {E : Type 0} (r : Result (Option Entry) E) → IfOk r (IsFirst (Repeated text (λ x. entry (f x)) xs)) → IfOk r (IsFirst (Repeated key entry (map f xs)))
  viewed_repeats (Err x) h = tt
  viewed_repeats (Ok a) h = same (Repeated text (λ x. entry (f x)) xs) (Repeated key entry (map f xs)) a to from h
