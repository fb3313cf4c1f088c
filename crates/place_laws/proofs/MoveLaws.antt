-- Ways in which what is broken moves from one set to another.
use Rattle.std.proofs.Common.{◌≡◌, ◌<◌, ℕ, zero, suc, Bool, true, false, List, [], ◌∷◌, map, length, Some, slice_get, inl, inr, ⊎_elim, refl, sym, ap, subst, ◌∙◌}
use Rattle.std.proofs.lemmas.List.{length-map}
use Rattle.std.proofs.lemmas.Option.{none-some, same_Some}
use Rattle.ranked.specs.Entries.{Entry}
use Rattle.ranked.specs.First.{Or, Below, At, Among, Only, Clear}
use Rattle.ranked.specs.Repeats.{Repeated}
use Rattle.wr_base.specs.declared.code.Code.{Code}
use Rattle.wr_rules.specs.Sites.{Spot, If, broken_at}
use Rattle.place_laws.specs.Moves.{Moves}

pub clear_moved : (A B : Entry → Type 0) → Moves B A → Clear A → Clear B
unfolding Clear
clear_moved A B m c = λ e b. (let r = m e b in c r.0 r.1)

pub or_moved : (A B C D : Entry → Type 0) → Moves A C → Moves B D → Moves (Or A B) (Or C D)
unfolding Or
or_moved A B C D m n = λ e h. ⊎_elim (λ a. (let r = m e a in (r.0, inl r.1))) (λ b. (let r = n e b in (r.0, inr r.1))) h

-- ---- lists with equal images

module _ {X Y S : Type 0} (f : X → S) (g : Y → S) where
  pub first_same : (x : X) (y : Y) (xs : List X) (ys : List Y) → map f (x ∷ xs) ≡ map g (y ∷ ys) → (f x ≡ g y) × (map f xs ≡ map g ys)
  first_same x y xs ys e = (ap (first (f x)) e, ap rest e)
    where
      first : S → List S → S
      first d [] = d
      first d (s ∷ ss) = s

      rest : List S → List S
      rest [] = []
      rest (s ∷ ss) = ss

  pub other_at : (xs : List X) (ys : List Y) → map f xs ≡ map g ys → (k : ℕ) (x : X) → slice_get xs k ≡ Some x → (y : Y) × (slice_get ys k ≡ Some y) × (f x ≡ g y)
  other_at [] ys e k x h = absurd (none-some x h)
  other_at (z ∷ zs) [] e k x h = cc
  other_at (z ∷ zs) (y ∷ ys) e zero x h = (y, refl, ap f (sym (same_Some z x h)) ∙ (first_same z y zs ys e).0)
  other_at (z ∷ zs) (y ∷ ys) e (suc k) x h = other_at zs ys (first_same z y zs ys e).1 k x h

  pub as_long : (xs : List X) (ys : List Y) → map f xs ≡ map g ys → length xs ≡ length ys
  as_long xs ys e = sym (length-map xs f) ∙ ap length e ∙ length-map ys g

  -- a rule over the elements, which goes by their images
  pub among_moved : (xs : List X) (ys : List Y) (A : X → Entry → Type 0) (B : Y → Entry → Type 0) → map f xs ≡ map g ys → ((x : X) (y : Y) → f x ≡ g y → Moves (A x) (B y)) → Moves (Among xs A) (Among ys B)
  unfolding Below At
  among_moved xs ys A B e each = λ o h.
      let k = h.0 in
      let t = other_at xs ys e k h.2.0 h.2.1 in
      let m = each h.2.0 t.0 t.2 o h.2.2 in
      (m.0, (k, subst (λ n. k < n) (as_long xs ys e) h.1, (t.0, t.1, m.1)))

-- a later element that repeats a key, where the keys are the same
pub repeated_moved : {X Y : Type 0} (key : X → List ℕ) (other : Y → List ℕ) (entry : X → Entry) (entry_ : Y → Entry) (xs : List X) (ys : List Y) → map key xs ≡ map other ys → Moves (Repeated key entry xs) (Repeated other entry_ ys)
unfolding Below At Only
repeated_moved key other entry entry_ xs ys e = λ o h.
    let k = h.0 in
    let t = other_at key other xs ys e k h.2.0 h.2.1 in
    let b = h.2.2.0 in
    let u = other_at key other xs ys e b.0 b.1 b.3 in
    (entry_ t.0, (k, subst (λ n. k < n) (as_long key other xs ys e) h.1, (t.0, t.1, ((b.0, u.0, b.2, u.1, sym u.2 ∙ b.4 ∙ t.2), refl))))

pub if_moved : (t u : Bool) (code : Code) (p q : Spot) → t ≡ u → Moves (If t code p) (If u code q)
unfolding If
if_moved true true code p q e = λ o h. (broken_at code q, refl)
if_moved false u code p q e = λ o h. absurd (none-some o h)
if_moved true false code p q e = cc

pub only_moved : (F G : Type 0) (a b : Entry) → (F → G) → Moves (Only F a) (Only G b)
unfolding Only
only_moved F G a b m = λ o h. (b, (m h.0, refl))
