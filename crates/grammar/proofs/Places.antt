-- A list has a fault at one place at most, and none where it is taken.
use Rattle.std.proofs.Common.{◌≡◌, ℕ, ◌<◌, ◌⊎◌, List, [], ◌∷◌, ◌++◌, length, refl, sym, ap, subst, ◌∙◌, append_assoc, arith, inl, inr}
use Rattle.std.proofs.lemmas.List.{append-nil, length-append}
use Rattle.grammar.specs.Faults.{Viable, Stuck, FaultAt}

-- one list cut at two places
record Between {T : Type 0} (a x b y : List T) : Type 0 where
  token : T
  middle : List T
  back : x ≡ token ∷ (middle ++ y)
  front : b ≡ a ++ token ∷ middle

cut_between : {T : Type 0} (a x b y : List T) → a ++ x ≡ b ++ y → length y < length x → Between a x b y
cut_between [] x [] y e l = absurd (omega (arith, ap length e))
cut_between [] x (t ∷ b) y e l = record { token = t; middle = b; back = e; front = refl }
cut_between (s ∷ a) x [] y e l = absurd (omega (arith, ap length e, length-append a x))
cut_between (s ∷ a) x (t ∷ b) y e l =
    let tail : a ++ x ≡ b ++ y = cc in
    let head : s ≡ t = cc in
    let more = cut_between a x b y tail l in
    record { token = more.token; middle = more.middle; back = more.back; front = cc (head, more.front) }

module _ {T A : Type 0} (P : List T → A → Type 0) where
  -- what begins a viable list, with one token more, isn't stuck
  not_stuck : (front rest : List T) (n : ℕ) (ts : List T) → ts ≡ front ++ rest → Stuck P front rest → (later : FaultAt P ts n) → n < length rest → ⊥
  not_stuck front rest n ts parts stuck later less =
      let cut = cut_between front rest later.front later.rest (sym parts ∙ later.parts) (omega (arith, later.left, less)) in
      let at : Stuck P front (cut.token ∷ (cut.middle ++ later.rest)) = subst (λ (u : List T). Stuck P front u) cut.back stuck in
      let more = later.viable.more in
      let same : later.front ++ more ≡ (front ++ cut.token ∷ []) ++ (cut.middle ++ more) =
      ap (λ (u : List T). u ++ more) cut.front ∙ append_assoc front (cut.token ∷ cut.middle) more ∙ sym (append_assoc front (cut.token ∷ []) (cut.middle ++ more)) in
      at (record { more = cut.middle ++ more; value = later.viable.value; whole = subst (λ (u : List T). P u later.viable.value) same later.viable.whole })

  either_way : (m n : ℕ) → (m ≡ n) ⊎ ((m < n) ⊎ (n < m))
  either_way m n = grind arith

  -- the fault stands at one place
  pub one_place : (ts : List T) (m n : ℕ) → FaultAt P ts m → FaultAt P ts n → m ≡ n
  one_place ts m n f g =
      elim (either_way m n) [
        | inl same ↦ same
        | inr other ↦ elim other [
          | inl less ↦ absurd (not_stuck g.front g.rest m ts g.parts g.stuck f (omega (arith, g.left, less)))
          | inr less ↦ absurd (not_stuck f.front f.rest n ts f.parts f.stuck g (omega (arith, f.left, less)))
        ]
      ]

  taken_case : (front rest : List T) (x : A) → P (front ++ rest) x → Stuck P front rest → ⊥
  taken_case front [] x h stuck = stuck x (subst (λ (u : List T). P u x) (append-nil front) h)
  taken_case front (t ∷ rest) x h stuck = stuck (record { more = rest; value = x; whole = subst (λ (u : List T). P u x) (sym (append_assoc front (t ∷ []) rest)) h })

  -- a list that is taken has none
  pub taken_no_fault : (ts : List T) (x : A) (n : ℕ) → P ts x → FaultAt P ts n → ⊥
  taken_no_fault ts x n h f = taken_case f.front f.rest x (subst (λ (u : List T). P u x) f.parts h) f.stuck
