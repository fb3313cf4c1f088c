-- One mark more.
use Rattle.std.proofs.Common.{◌≡◌, ◌≢◌, ◌<◌, ◌≤◌, ◌+◌, ℕ, zero, suc, List, [], ◌∷◌, ◌++◌, ◌⊎◌, inl, inr, ⊎_elim, refl, sym, ap, subst, ◌∙◌, arith, take, drop, set, get_or, length}
use Rattle.std.proofs.lemmas.List.{get_or-set_same, get_or-set_other, take_more}
use Rattle.std.proofs.Math.Seq.{take-append_seam}
use Rattle.std.proofs.lemmas.List.Sums.{sum_by-set}
use Rattle.std.proofs.lemmas.Bool.Decides.{eqb_tells}
use Rattle.chains.specs.declared.group.Mark.{Mark}
use Rattle.chains.specs.declared.group.Mark.TheVariants.{New, Open}
use Rattle.chains.specs.Graphs.{In}
use Rattle.chains.specs.Marks.{mark_in, new_at, news}
use Rattle.chains.proofs.Members.{In-left, In-right, In-append}

pub same_or_not : (a b : ℕ) → (a ≡ b) ⊎ (a ≢ b)
same_or_not a b = ⊎_elim (λ t. inl t.1) (λ t. inr t.1) (eqb_tells a b)

-- one of the first i + 1 is one of the first i or the next one
pub next_in : (xs : List ℕ) (i x a : ℕ) → i < length xs → x ≡ get_or xs i 0 → In a (take (i + 1) xs) → In a (take i xs) ⊎ (x ≡ a)
next_in xs i x a l e h =
    ⊎_elim (λ t. inl t) (λ t. ⊎_elim (λ q. inr (e ∙ q)) (λ b. absurd b) t) (In-append a (take i xs) (get_or xs i 0 ∷ []) (subst (In a) (take_more xs i 0 l) h))

pub still_in : (xs : List ℕ) (i x a : ℕ) → i < length xs → In a (take i xs) → In a (take (i + 1) xs)
still_in xs i x a l h = subst (In a) (sym (take_more xs i 0 l)) (In-left a (take i xs) (get_or xs i 0 ∷ []) h)

pub now_in : (xs : List ℕ) (i x : ℕ) → i < length xs → x ≡ get_or xs i 0 → In x (take (i + 1) xs)
now_in xs i x l e = subst (In x) (sym (take_more xs i 0 l)) (In-right x (take i xs) (get_or xs i 0 ∷ []) (inl (sym e)))

-- the marks after one is set
pub set_here : (marks : List Mark) (v : ℕ) (m : Mark) → v < length marks → mark_in (set marks v m) v ≡ m
set_here marks v m l = get_or-set_same marks v m New l

pub set_there : (marks : List Mark) (v a : ℕ) (m : Mark) → a ≢ v → mark_in (set marks v m) a ≡ mark_in marks a
set_there marks v a m n = get_or-set_other marks v a m New n

pub fewer_news_by : (marks : List Mark) (v : ℕ) (m : Mark) → v < length marks → news (set marks v m) + new_at (mark_in marks v) ≡ news marks + new_at m
fewer_news_by marks v m l = sum_by-set new_at marks v m New l

pub fewer_news : (marks : List Mark) (v : ℕ) (m : Mark) → v < length marks → new_at m ≡ 0 → news (set marks v m) + new_at (mark_in marks v) ≡ news marks
fewer_news marks v m l z = omega (arith, sum_by-set new_at marks v m New l, z)

module _ (marks now first : List Mark) (nodes : List ℕ) (i x : ℕ) (m : Mark) (l : i < length nodes) (e : x ≡ get_or nodes i 0) (within : x < length marks) (is : now ≡ set marks x m) where
  pub here_more : ((a : ℕ) → In a (take i nodes) → mark_in marks a ≡ m) → (a : ℕ) → In a (take (i + 1) nodes) → mark_in now a ≡ m
  here_more h a t = ap (λ ms. mark_in ms a) is ∙ ⊎_elim (λ q. subst (λ y. mark_in (set marks x m) y ≡ m) q (set_here marks x m within))
      (λ q. set_there marks x a m (λ p. q (sym p)) ∙ ⊎_elim (λ y. h a y) (λ y. absurd (q y)) (next_in nodes i x a l e t)) (same_or_not x a)

  pub there_more : ((a : ℕ) → (In a (take i nodes) → ⊥) → mark_in marks a ≡ mark_in first a) → (a : ℕ) → (In a (take (i + 1) nodes) → ⊥) → mark_in now a ≡ mark_in first a
  there_more h a t =
      ap (λ ms. mark_in ms a) is
      ∙ set_there marks x a m (λ p. t (subst (λ y. In y (take (i + 1) nodes)) (sym p) (now_in nodes i x l e)))
      ∙ h a (λ y. t (still_in nodes i x a l y))

  pub news_more : new_at m ≡ 0 → news marks ≤ news first → news now ≤ news first
  news_more z h = let f = fewer_news marks x m within z in omega (arith, ap news is, f, h)

-- an element by its place
pub In-get_or : (xs : List ℕ) (i : ℕ) → i < length xs → In (get_or xs i 0) xs
In-get_or [] i l = absurd (omega (arith, l))
In-get_or (x ∷ xs) zero l = inl refl
In-get_or (x ∷ xs) (suc i) l = inr (In-get_or xs i (omega (arith, l)))

-- past the end all are new
pub open_within : (marks : List Mark) (a k : ℕ) → mark_in marks a ≡ Open k → a < length marks
open_within [] a k e = cc
open_within (m ∷ ms) zero k e = omega arith
open_within (m ∷ ms) (suc a) k e = let h : a < length ms = open_within ms a k e in omega (arith, h)

pub empty_from_length : (xs : List ℕ) → length xs ≡ 0 → xs ≡ []
empty_from_length [] e = refl
empty_from_length (x ∷ xs) e = absurd (omega (arith, e))

-- a vector after a call that wrote all of it
pub written_whole : {X : Type 0} (n : ℕ) (xs ys : List X) → length xs ≡ length ys → length ys ≡ n → take n (xs ++ drop (length xs) ys) ≡ xs
written_whole n xs ys e f = subst (λ k. take k (xs ++ drop (length xs) ys) ≡ xs) (e ∙ f) (take-append_seam xs (drop (length xs) ys))
