-- Rules on two members, by counts of names.
use Rattle.std.proofs.Common.{◌≡◌, ◌≢◌, ◌<◌, ◌≤◌, ◌+◌, ◌↔◌, ℕ, zero, suc, Bool, true, false, not, cond, ◌&&◌, List, [], ◌∷◌, Some, ◌⊎◌, inl, inr, ⊎_elim, slice_get, count_by, refl, sym, ap, ◌∙◌, arith, true≢false, zero-add}
use Rattle.std.proofs.lemmas.Option.{none-some, same_Some}
use Rattle.std.proofs.lemmas.List.Sums.{sum_by-cons}
use Rattle.std.specs.Cmp.Lexicographic.{bytes_decides}
use Rattle.wr_base.specs.declared.declaration.Member.{Member}
use Rattle.wr_rules.specs.Members.{member_name, Standing}
use Rattle.wr_base.specs.Lower.{lower}
use Rattle.wr_rules.specs.MemberRules.{is_method, same_name, same_lower, mixes, differs_in_case, Pair}

pub tells : (b : Bool) → (b ≡ true) ⊎ (b ≡ false)
tells true = inl refl
tells false = inr refl

module _ {X : Type 0} where
  count_yes : (p : X → Bool) (x : X) (xs : List X) → p x ≡ true → count_by p (x ∷ xs) ≡ 1 + count_by p xs
  count_yes p x xs e = sum_by-cons (λ y. cond (p y) 1 0) x xs ∙ ap (λ b. cond b 1 0 + count_by p xs) e

  count_no : (p : X → Bool) (x : X) (xs : List X) → p x ≡ false → count_by p (x ∷ xs) ≡ count_by p xs
  count_no p x xs e = sum_by-cons (λ y. cond (p y) 1 0) x xs ∙ ap (λ b. cond b 1 0 + count_by p xs) e ∙ zero-add (count_by p xs)

  abbrev pub One : (X → Bool) → List X → Type 0
  One p xs = (j : ℕ) × (b : X) × (slice_get xs j ≡ Some b) × (p b ≡ true)

  -- where a test holds at least once, one passes
  pub one_of : (p : X → Bool) (xs : List X) → 0 < count_by p xs → One p xs
  one_of p [] l = absurd (omega (arith, l))
  one_of p (x ∷ xs) l = ⊎_elim (λ e. (0, x, refl, e)) (λ e. (let n = count_no p x xs e in let r = one_of p xs (omega (arith, n, l)) in (suc r.0, r.1, r.2, r.3))) (tells (p x))

  pub of_one : (p : X → Bool) (xs : List X) (j : ℕ) (b : X) → slice_get xs j ≡ Some b → p b ≡ true → 0 < count_by p xs
  of_one p [] j b e h = absurd (none-some b e)
  of_one p (x ∷ xs) zero b e h = let n = count_yes p x xs (ap p (same_Some x b e) ∙ h) in omega (arith, n)
  of_one p (x ∷ xs) (suc j) b e h = let r = of_one p xs j b e h in ⊎_elim (λ y. (let n = count_yes p x xs y in omega (arith, n, r))) (λ y. (let n = count_no p x xs y in omega (arith, n, r))) (tells (p x))

  module _ (p q : X → Bool) (within : (x : X) → q x ≡ true → p x ≡ true) where
    no_more : (xs : List X) → count_by q xs ≤ count_by p xs
    no_more [] = omega arith
    no_more (x ∷ xs) = let r = no_more xs in ⊎_elim
        (λ y. (let a = count_yes q x xs y in let b = count_yes p x xs (within x y) in omega (arith, a, b, r)))
        (λ y. (let a = count_no q x xs y in ⊎_elim (λ z. (let b = count_yes p x xs z in omega (arith, a, b, r))) (λ z. (let b = count_no p x xs z in omega (arith, a, b, r))) (tells (p x))))
        (tells (q x))

    -- more pass the wider test: one passes it alone
    pub one_apart : (xs : List X) → count_by q xs < count_by p xs → (j : ℕ) × (b : X) × (slice_get xs j ≡ Some b) × (p b ≡ true) × (q b ≡ false)
    one_apart [] l = absurd (omega (arith, l))
    one_apart (x ∷ xs) l = ⊎_elim
        (λ y. (let a = count_yes q x xs y in let b = count_yes p x xs (within x y) in let r = one_apart xs (omega (arith, a, b, l)) in (suc r.0, r.1, r.2, r.3, r.4)))
        (λ y. ⊎_elim (λ z. (0, x, refl, z, y))
        (λ z. (let a = count_no q x xs y in let b = count_no p x xs z in let r = one_apart xs (omega (arith, a, b, l)) in (suc r.0, r.1, r.2, r.3, r.4))) (tells (p x)))
        (tells (q x))

    pub apart_more : (xs : List X) (j : ℕ) (b : X) → slice_get xs j ≡ Some b → p b ≡ true → q b ≡ false → count_by q xs < count_by p xs
    apart_more [] j b e y n = absurd (none-some b e)
    apart_more (x ∷ xs) zero b e y n = let a = count_no q x xs (ap q (same_Some x b e) ∙ n) in let c = count_yes p x xs (ap p (same_Some x b e) ∙ y) in let r = no_more xs in omega (arith, a, c, r)
    apart_more (x ∷ xs) (suc j) b e y n = let r = apart_more xs j b e y n in ⊎_elim
        (λ s. (let a = count_yes q x xs s in let c = count_yes p x xs (within x s) in omega (arith, a, c, r)))
        (λ s. (let a = count_no q x xs s in ⊎_elim (λ t. (let c = count_yes p x xs t in omega (arith, a, c, r))) (λ t. (let c = count_no p x xs t in omega (arith, a, c, r))) (tells (p x))))
        (tells (q x))

  -- two pass: another one than the i-th
  pub another : (p : X → Bool) (xs : List X) (i : ℕ) → 2 ≤ count_by p xs → (j : ℕ) × (b : X) × (i ≢ j) × (slice_get xs j ≡ Some b) × (p b ≡ true)
  another p [] i l = absurd (omega (arith, l))
  another p (x ∷ xs) zero l = ⊎_elim
      (λ e. (let n = count_yes p x xs e in let r = one_of p xs (omega (arith, n, l)) in (suc r.0, r.1, (λ q. absurd (omega (arith, q))), r.2, r.3)))
      (λ e. (let n = count_no p x xs e in let r = one_of p xs (omega (arith, n, l)) in (suc r.0, r.1, (λ q. absurd (omega (arith, q))), r.2, r.3))) (tells (p x))
  another p (x ∷ xs) (suc i) l = ⊎_elim
      (λ e. (0, x, (λ q. absurd (omega (arith, q))), refl, e))
      (λ e. (let n = count_no p x xs e in let r = another p xs i (omega (arith, n, l)) in let ne = r.2 in (suc r.0, r.1, (λ q. ne (omega (arith, q))), r.3, r.4))) (tells (p x))

  pub of_two : (p : X → Bool) (xs : List X) (i j : ℕ) (a b : X) → i ≢ j → slice_get xs i ≡ Some a → p a ≡ true → slice_get xs j ≡ Some b → p b ≡ true → 2 ≤ count_by p xs
  of_two p [] i j a b n e h f k = absurd (none-some a e)
  of_two p (x ∷ xs) zero zero a b n e h f k = absurd (n refl)
  of_two p (x ∷ xs) zero (suc j) a b n e h f k = let c = count_yes p x xs (ap p (same_Some x a e) ∙ h) in let r = of_one p xs j b f k in omega (arith, c, r)
  of_two p (x ∷ xs) (suc i) zero a b n e h f k = let c = count_yes p x xs (ap p (same_Some x b f) ∙ k) in let r = of_one p xs i a e h in omega (arith, c, r)
  of_two p (x ∷ xs) (suc i) (suc j) a b n e h f k = let r = of_two p xs i j a b (λ q. n (ap suc q)) e h f k in ⊎_elim (λ y. (let c = count_yes p x xs y in omega (arith, c, r))) (λ y. (let c = count_no p x xs y in omega (arith, c, r))) (tells (p x))

-- ---- members

pub both : (a b : Bool) → (a && b) ≡ true → (a ≡ true) × (b ≡ true)
both true b e = (refl, e)
both false b e = cc

pub both_of : (a b : Bool) → a ≡ true → b ≡ true → (a && b) ≡ true
both_of true b e f = f
both_of false b e f = cc

pub not_true : (b : Bool) → not b ≡ true → b ≡ false
not_true true e = cc
not_true false e = refl

pub of_false : (b : Bool) → b ≡ false → not b ≡ true
of_false true e = cc
of_false false e = refl

-- how many members have this name, exactly or but for case
abbrev pub with_name : Member → List (Standing Member) → ℕ
with_name a ms = count_by (λ m. same_name a m.part) ms

abbrev pub with_lower : Member → List (Standing Member) → ℕ
with_lower a ms = count_by (λ m. same_lower a m.part) ms

abbrev pub others_with_name : Member → List (Standing Member) → ℕ
others_with_name a ms = count_by (λ m. same_name a m.part && not (is_method m.part)) ms

module _ (ms : List (Standing Member)) (i : ℕ) (a : Standing Member) (here : slice_get ms i ≡ Some a) where
  exact_lower : (b : Standing Member) → same_name a.part b.part ≡ true → same_lower a.part b.part ≡ true
  exact_lower b e = (bytes_decides (lower (member_name a.part)) (lower (member_name b.part))).1 (ap lower ((bytes_decides (member_name a.part) (member_name b.part)).0 e))

  same_itself : same_name a.part a.part ≡ true
  same_itself = (bytes_decides (member_name a.part) (member_name a.part)).1 refl

  -- another name in the same lower case: more have it but for case than exactly
  pub case_by_counts : Pair differs_in_case ms i a ↔ (with_name a.part ms < with_lower a.part ms)
  case_by_counts = (
    λ p. (let e = both (same_lower a.part p.b.part) (not (same_name a.part p.b.part)) p.so in
        apart_more (λ m. same_lower a.part m.part) (λ m. same_name a.part m.part) exact_lower ms p.j p.b p.at e.0 (not_true (same_name a.part p.b.part) e.1)),
    λ l. (let r = one_apart (λ m. same_lower a.part m.part) (λ m. same_name a.part m.part) exact_lower ms l in
        record {
          j = r.0;
          b = r.1;
          at = r.2;
          apart = λ q. true≢false (sym same_itself ∙ ap (λ (m : Standing Member). same_name a.part m.part) (same_Some a r.1 (sym here ∙ (ap (slice_get ms) q ∙ r.2))) ∙ r.4);
          so = both_of (same_lower a.part r.1.part) (not (same_name a.part r.1.part)) r.3 (of_false (same_name a.part r.1.part) r.4);
        }),
  )

  abbrev pub KindCounts : Bool → ℕ → ℕ → Type 0
  KindCounts true others all_ = 0 < others
  KindCounts false others all_ = 2 ≤ all_

  -- a method: one of its name is none; another member: two have its name
  pub kind_by_counts : Pair mixes ms i a ↔ KindCounts (is_method a.part) (others_with_name a.part ms) (with_name a.part ms)
  kind_by_counts = (λ p. to p, λ k. from k)
    where
      to_either : (m : Bool) → is_method a.part ≡ m → Pair mixes ms i a → KindCounts m (others_with_name a.part ms) (with_name a.part ms)
      to_either true e p =
          let s = both (same_name a.part p.b.part) (not (is_method a.part && is_method p.b.part)) p.so in
          of_one (λ m. same_name a.part m.part && not (is_method m.part)) ms p.j p.b p.at (both_of (same_name a.part p.b.part) (not (is_method p.b.part)) s.0 (ap (λ t. not (t && is_method p.b.part)) (sym e) ∙ s.1))
      to_either false e p =
          let s = both (same_name a.part p.b.part) (not (is_method a.part && is_method p.b.part)) p.so in
          of_two (λ m. same_name a.part m.part) ms i p.j a p.b p.apart here same_itself p.at s.0

      to : Pair mixes ms i a → KindCounts (is_method a.part) (others_with_name a.part ms) (with_name a.part ms)
      to p = to_either (is_method a.part) refl p

      from_either : (m : Bool) → is_method a.part ≡ m → KindCounts m (others_with_name a.part ms) (with_name a.part ms) → Pair mixes ms i a
      from_either true e k =
          let r = one_of (λ m. same_name a.part m.part && not (is_method m.part)) ms k in
          let s = both (same_name a.part r.1.part) (not (is_method r.1.part)) r.3 in
          record {
            j = r.0;
            b = r.1;
            at = r.2;
            apart = λ q. true≢false (sym e ∙ ap (λ (m : Standing Member). is_method m.part) (same_Some a r.1 (sym here ∙ (ap (slice_get ms) q ∙ r.2))) ∙ not_true (is_method r.1.part) s.1);
            so = both_of (same_name a.part r.1.part) (not (is_method a.part && is_method r.1.part)) s.0 (ap (λ t. not (t && is_method r.1.part)) e ∙ s.1);
          }
      from_either false e k =
          let r = another (λ m. same_name a.part m.part) ms i k in
          record {
            j = r.0;
            b = r.1;
            at = r.3;
            apart = r.2;
            so = both_of (same_name a.part r.1.part) (not (is_method a.part && is_method r.1.part)) r.4 (ap (λ t. not (t && is_method r.1.part)) e);
          }

      from : KindCounts (is_method a.part) (others_with_name a.part ms) (with_name a.part ms) → Pair mixes ms i a
      from k = from_either (is_method a.part) refl k
