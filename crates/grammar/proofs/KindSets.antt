-- Sets of kinds, as lists that compute, and lists that are cut in two.
use Rattle.std.proofs.Common.{◌≡◌, ℕ, Bool, true, false, cond, ◌||◌, eqb, List, [], ◌∷◌, ◌++◌, length, refl, ap, ◌∙◌, arith, inl, inr, ◌⊎◌}
use Rattle.std.proofs.lemmas.List.{length-append}
use Rattle.std.proofs.lemmas.Bool.{eqb-true}
use Rattle.grammar.specs.Productions.{has}
use Rattle.grammar.specs.Readers.{starts}

-- no kind stands in both
abbrev pub apart : List ℕ → List ℕ → Bool
apart [] qs = true
apart (p ∷ ps) qs = cond (has qs p) false (apart ps qs)

-- each kind of the first stands in the second
abbrev pub within : List ℕ → List ℕ → Bool
within [] qs = true
within (p ∷ ps) qs = cond (has qs p) (within ps qs) false

apart_case : (h r : Bool) → cond h false r ≡ true → (h ≡ false) × (r ≡ true)
apart_case true r e = absurd cc
apart_case false r e = (refl, e)

within_case : (h r : Bool) → cond h r false ≡ true → (h ≡ true) × (r ≡ true)
within_case true r e = (refl, e)
within_case false r e = absurd cc

or_case : (a b : Bool) → (a || b) ≡ true → (a ≡ true) ⊎ ((a ≡ false) × (b ≡ true))
or_case true b e = inl refl
or_case false b e = inr (refl, e)

pub apart_has : (ps qs : List ℕ) (k : ℕ) → apart ps qs ≡ true → has ps k ≡ true → has qs k ≡ false
apart_has [] qs k e h = absurd cc
apart_has (p ∷ ps) qs k e h =
    let c = apart_case (has qs p) (apart ps qs) e in
    elim (or_case (eqb k p) (has ps k) h) [
      | inl same ↦ ap (has qs) (eqb-true k p same) ∙ c.0
      | inr more ↦ apart_has ps qs k c.1 more.1
    ]

pub within_has : (ps qs : List ℕ) (k : ℕ) → within ps qs ≡ true → has ps k ≡ true → has qs k ≡ true
within_has [] qs k e h = absurd cc
within_has (p ∷ ps) qs k e h =
    let c = within_case (has qs p) (within ps qs) e in
    elim (or_case (eqb k p) (has ps k) h) [
      | inl same ↦ ap (has qs) (eqb-true k p same) ∙ c.0
      | inr more ↦ within_has ps qs k c.1 more.1
    ]

has_false : (b : Bool) → (b ≡ true → ⊥) → b ≡ false
has_false true h = absurd (h refl)
has_false false h = refl

true_not_false : (b : Bool) → b ≡ true → b ≡ false → ⊥
true_not_false b e f = cc

pub within_free : (ps qs : List ℕ) (k : ℕ) → within ps qs ≡ true → has qs k ≡ false → has ps k ≡ false
within_free ps qs k e h = has_false (has ps k) (λ g. true_not_false (has qs k) (within_has ps qs k e g) h)

-- the same at the head of a list
pub starts_apart : {T : Type 0} (kind : T → ℕ) (ps qs : List ℕ) (ts : List T) → apart ps qs ≡ true → starts kind ps ts ≡ true → starts kind qs ts ≡ false
starts_apart kind ps qs [] e h = refl
starts_apart kind ps qs (t ∷ ts) e h = apart_has ps qs (kind t) e h

pub starts_within : {T : Type 0} (kind : T → ℕ) (ps qs : List ℕ) (ts : List T) → within ps qs ≡ true → starts kind ps ts ≡ true → starts kind qs ts ≡ true
starts_within kind ps qs [] e h = absurd cc
starts_within kind ps qs (t ∷ ts) e h = within_has ps qs (kind t) e h

pub free_within : {T : Type 0} (kind : T → ℕ) (ps qs : List ℕ) (ts : List T) → within ps qs ≡ true → starts kind qs ts ≡ false → starts kind ps ts ≡ false
free_within kind ps qs [] e h = refl
free_within kind ps qs (t ∷ ts) e h = within_free ps qs (kind t) e h

-- the same next token
abbrev pub Alike : {T : Type 0} → List T → List T → Type 0
Alike [] [] = Unit {0}
Alike [] (y ∷ ys) = ⊥
Alike (x ∷ xs) [] = ⊥
Alike (x ∷ xs) (y ∷ ys) = x ≡ y

pub Alike-after : {T : Type 0} (front xs ys : List T) → Alike xs ys → Alike (front ++ xs) (front ++ ys)
Alike-after [] xs ys h = h
Alike-after (t ∷ front) xs ys h = refl

pub starts_alike : {T : Type 0} (kind : T → ℕ) (ps : List ℕ) (xs ys : List T) → Alike xs ys → starts kind ps xs ≡ starts kind ps ys
starts_alike kind ps [] [] h = refl
starts_alike kind ps [] (y ∷ ys) h = absurd h
starts_alike kind ps (x ∷ xs) [] h = absurd h
starts_alike kind ps (x ∷ xs) (y ∷ ys) h = ap (λ t. has ps (kind t)) h

-- one list cut at one place
pub one_cut : {T : Type 0} (a b x y : List T) → a ++ x ≡ b ++ y → length x ≡ length y → (a ≡ b) × (x ≡ y)
one_cut [] [] x y e l = (refl, e)
one_cut [] (t ∷ b) x y e l = absurd (omega (arith, ap length e, length-append b y, l))
one_cut (s ∷ a) [] x y e l = absurd (omega (arith, ap length e, length-append a x, l))
one_cut (s ∷ a) (t ∷ b) x y e l =
    let tail : a ++ x ≡ b ++ y = cc in
    let head : s ≡ t = cc in
    let more = one_cut a b x y tail l in
    (cc (head, more.0), more.1)

-- lists joined
or_left : (a b : Bool) → a ≡ true → (a || b) ≡ true
or_left true b e = refl
or_left false b e = absurd cc

pub has_left : (ps qs : List ℕ) (k : ℕ) → has ps k ≡ true → has (ps ++ qs) k ≡ true
has_left [] qs k h = absurd cc
has_left (p ∷ ps) qs k h =
    elim (or_case (eqb k p) (has ps k) h) [
      | inl same ↦ or_left (eqb k p) (has (ps ++ qs) k) same
      | inr more ↦ rw more.0 (has_left ps qs k more.1)
    ]

or_right : (a b : Bool) → b ≡ true → (a || b) ≡ true
or_right true b e = refl
or_right false b e = e

pub has_right : (ps qs : List ℕ) (k : ℕ) → has qs k ≡ true → has (ps ++ qs) k ≡ true
has_right [] qs k h = h
has_right (p ∷ ps) qs k h = or_right (eqb k p) (has (ps ++ qs) k) (has_right ps qs k h)

pub free_left : {T : Type 0} (kind : T → ℕ) (ps qs : List ℕ) (ts : List T) → starts kind (ps ++ qs) ts ≡ false → starts kind ps ts ≡ false
free_left kind ps qs [] h = refl
free_left kind ps qs (t ∷ ts) h = has_false (has ps (kind t)) (λ g. true_not_false (has (ps ++ qs) (kind t)) (has_left ps qs (kind t) g) h)

pub free_right : {T : Type 0} (kind : T → ℕ) (ps qs : List ℕ) (ts : List T) → starts kind (ps ++ qs) ts ≡ false → starts kind qs ts ≡ false
free_right kind ps qs [] h = refl
free_right kind ps qs (t ∷ ts) h = has_false (has qs (kind t)) (λ g. true_not_false (has (ps ++ qs) (kind t)) (has_right ps qs (kind t) g) h)

pub has_either : (ps qs : List ℕ) (k : ℕ) → has (ps ++ qs) k ≡ true → (has ps k ≡ true) ⊎ (has qs k ≡ true)
has_either [] qs k h = inr h
has_either (p ∷ ps) qs k h =
    elim (or_case (eqb k p) (has (ps ++ qs) k) h) [
      | inl same ↦ inl (or_left (eqb k p) (has ps k) same)
      | inr more ↦ elim (has_either ps qs k more.1) [ inl a ↦ inl (or_right (eqb k p) (has ps k) a) | inr b ↦ inr b ]
    ]

-- each kind of the first stands in the second
abbrev pub Within : List ℕ → List ℕ → Type 0
Within ps qs = (k : ℕ) → has ps k ≡ true → has qs k ≡ true

pub free_Within : {T : Type 0} (kind : T → ℕ) (ps qs : List ℕ) (ts : List T) → Within ps qs → starts kind qs ts ≡ false → starts kind ps ts ≡ false
free_Within kind ps qs [] w h = refl
free_Within kind ps qs (t ∷ ts) w h = has_false (has ps (kind t)) (λ g. true_not_false (has qs (kind t)) (w (kind t) g) h)

pub apart_none : (ps : List ℕ) → apart ps [] ≡ true
apart_none [] = refl
apart_none (p ∷ ps) = apart_none ps
