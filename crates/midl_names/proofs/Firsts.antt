-- The first entry of a list seen through a function.
use Rattle.std.proofs.Common.{◌≡◌, Bool, true, false, not, ℕ, ◌+◌, ◌<◌, List, Option, Some, None, map, get_or, slice_get, length, refl, sym, ap, subst, ◌∙◌}
use Rattle.std.specs.Option.{option_map}
use Rattle.std.proofs.lemmas.Option.{slice_get-map, same_Some, none-some}
use Rattle.std.proofs.lemmas.List.{length-map}
use Rattle.ranked.specs.Entries.{Entry, UpTo, earlier_of}
use Rattle.ranked.specs.First.{IsFirst, Below, At, Among, Only}
use Rattle.ranked.specs.Repeats.{StandsBefore, RepeatAt, Repeated}
use Rattle.ranked.proofs.FirstLaws.{same, finished, one_more_element, itself}
use Rattle.midl_names.specs.Faults.{Gives}

pub not_not : (b : Bool) → not (not b) ≡ b
not_not true = refl
not_not false = refl

-- what stands at a place of a list seen through a function
origin : {X Y : Type 0} (f : X → Y) (o : Option X) (y : Y) → option_map f o ≡ Some y → (x : X) × (o ≡ Some x) × (f x ≡ y)
origin f None y e = absurd (none-some y e)
origin f (Some x) y e = (x, refl, same_Some (f x) y e)

module _ {X Y : Type 0} (f : X → Y) (xs : List X) where
  seen : (k : ℕ) (x : X) → slice_get xs k ≡ Some x → slice_get (map f xs) k ≡ Some (f x)
  seen k x e = slice_get-map f xs k ∙ ap (option_map f) e

  unseen : (k : ℕ) (y : Y) → slice_get (map f xs) k ≡ Some y → (x : X) × (slice_get xs k ≡ Some x) × (f x ≡ y)
  unseen k y e = origin f (slice_get xs k) y (sym (slice_get-map f xs k) ∙ e)

  inside : (k : ℕ) → k < length xs → k < length (map f xs)
  inside k l = subst (λ n. k < n) (sym (length-map xs f)) l

  outside : (k : ℕ) → k < length (map f xs) → k < length xs
  outside k l = subst (λ n. k < n) (length-map xs f) l

  pub viewed : (B : Y → Entry → Type 0) (i : ℕ) (a : Option Entry) → IsFirst (Below i (At xs (λ x. B (f x)))) a → i ≡ length xs → IsFirst (Among (map f xs) B) a
  unfolding Below At
  viewed B i a h e =
      same (Below (length xs) (At xs (λ x. B (f x)))) (Among (map f xs) B) a
      (λ en b. (b.0, inside b.0 b.1, (f b.2.0, seen b.0 b.2.0 b.2.1, b.2.2)))
      (λ en b. (let o = unseen b.0 b.2.0 b.2.1 in (b.0, outside b.0 b.1, (o.0, o.1, subst (λ y. B y en) (sym o.2) b.2.2))))
      (finished (At xs (λ x. B (f x))) i (length xs) a h e)

  module _ (key : Y → List ℕ) (entry : Y → Entry) where
    before_to : (k : ℕ) (name : List ℕ) → StandsBefore (λ x. key (f x)) xs k name → StandsBefore key (map f xs) k name
    before_to k name s = (s.0, f s.1, s.2, seen s.0 s.1 s.3, s.4)

    before_from : (k : ℕ) (name : List ℕ) → StandsBefore key (map f xs) k name → StandsBefore (λ x. key (f x)) xs k name
    before_from k name s = let o = unseen s.0 s.1 s.3 in (s.0, o.0, s.2, o.1, ap key o.2 ∙ s.4)

    pub viewed_repeats : (i : ℕ) (a : Option Entry) → IsFirst (Below i (RepeatAt (λ x. key (f x)) (λ x. entry (f x)) xs)) a → i ≡ length xs → IsFirst (Repeated key entry (map f xs)) a
    unfolding Below At Only
    viewed_repeats i a h e =
        same (Below (length xs) (RepeatAt (λ x. key (f x)) (λ x. entry (f x)) xs)) (Repeated key entry (map f xs)) a
        (λ en b. (b.0, inside b.0 b.1, (f b.2.0, seen b.0 b.2.0 b.2.1, (before_to b.0 (key (f b.2.0)) b.2.2.0, b.2.2.1))))
        (λ en b.
        let o = unseen b.0 b.2.0 b.2.1 in
        (b.0, outside b.0 b.1, (o.0, o.1, (before_from b.0 (key (f o.0)) (subst (λ y. StandsBefore key (map f xs) b.0 (key y)) (sym o.2) b.2.2.0), b.2.2.1 ∙ ap entry (sym o.2)))))
        (finished (RepeatAt (λ x. key (f x)) (λ x. entry (f x)) xs) i (length xs) a h e)

-- a rule with at most one entry
pub gives : (o a : Option Entry) → a ≡ o → IsFirst (Gives o) a
unfolding Gives IsFirst
gives None a e = subst (IsFirst (Gives None)) (sym e) (λ en h. none-some en h)
gives (Some x) a e = subst (IsFirst (Gives (Some x))) (sym e) (record { stands = refl; least = λ other h. subst (UpTo x) (same_Some x other h) (itself x) })

-- one more element in a loop
pub one_more_given : {X : Type 0} (xs : List X) (fault : X → Option Entry) (i : ℕ) (x : X) (a b c : Option Entry) → x ≡ get_or xs i x → c ≡ earlier_of a b
    → IsFirst (Below i (At xs (λ y. Gives (fault y)))) a → b ≡ fault x → i < length xs → IsFirst (Below (i + 1) (At xs (λ y. Gives (fault y)))) c
one_more_given xs fault i x a b c e q h g l = one_more_element xs (λ y. Gives (fault y)) i x a b c e q h (gives (fault x) b g) l
