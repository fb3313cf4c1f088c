-- Repetitions.
use Rattle.std.proofs.Common.{◌≡◌, ℕ, zero, suc, ◌+◌, ◌<◌, ◌≤◌, true, false, cond, List, [], ◌∷◌, ◌++◌, length, Ok, Err, refl, sym, ap, subst, ◌∙◌, arith, inl, inr}
use Rattle.std.proofs.lemmas.List.{length-append, append-nil}
use Rattle.grammar.specs.Productions.{has, Done, Then, Many, Either}
use Rattle.grammar.specs.Readers.{Read, starts, done_at, follow, many_by, many_at}
use Rattle.grammar.proofs.KindSets.{apart, has_either, Alike, has_left, has_right}
use Rattle.grammar.proofs.ReaderLaws.{Reads, GoesOn, Taken, begins_so, then_reads, done_reads}
use Rattle.grammar.proofs.Choices.{wider_reads, larger_reads, either_reads}

-- what may go on after some items
in_loop : (n f : List ℕ) (k : ℕ) → has (f ++ (((n ++ f) ++ n) ++ [])) k ≡ true → has (n ++ f) k ≡ true
in_loop n f k h =
    elim (has_either f (((n ++ f) ++ n) ++ []) k h) [
      | inl a ↦ has_right n f k a
      | inr b ↦ elim (has_either (n ++ f) n k (rw append-nil at b)) [ inl c ↦ c | inr d ↦ has_left n f k d ]
    ]

-- at most n of P
abbrev pub AtMost : {T A : Type 0} → (List T → A → Type 0) → ℕ → List T → List A → Type 0
AtMost P zero = Done []
AtMost P (suc n) = Either (Then P (λ x. Then (AtMost P n) (λ xs. Done (x ∷ xs)))) (Done [])

pub at_most_many : {T A : Type 0} (P : List T → A → Type 0) (n : ℕ) (ts : List T) (xs : List A) → AtMost P n ts xs → Many P ts xs
at_most_many P zero ts xs h = rw h.value h.nothing
at_most_many P (suc n) ts xs (inr h) = rw h.value h.nothing
at_most_many {T = T} {A = A} P (suc n) ts xs (inl h) =
    let m = h.second in
    let d = m.second in
    let back : h.back ≡ m.front = m.parts ∙ ap (λ (u : List T). m.front ++ u) d.nothing ∙ append-nil m.front in
    let more : Many P m.front m.value = at_most_many P n m.front m.value m.first in
    subst (λ (ys : List A). Many P ts ys) (sym d.value) (record { front = h.front; back = m.front; parts = h.parts ∙ ap (λ (u : List T). h.front ++ u) back; first = h.first; second = more })

many_at_most : {T A : Type 0} (P : List T → A → Type 0) (n : ℕ) (ts : List T) (xs : List A) → length xs ≤ n → Many P ts xs → AtMost P n ts xs
many_at_most P zero ts [] le h = record { nothing = h; value = refl }
many_at_most P zero ts (x ∷ xs) le h = absurd (omega arith)
many_at_most P (suc n) ts [] le h = inr (record { nothing = h; value = refl })
many_at_most P (suc n) ts (x ∷ xs) le h =
    inl (record {
      value = x;
      front = h.front;
      back = h.back;
      parts = h.parts;
      first = h.first;
      second = record {
        value = xs;
        front = h.back;
        back = [];
        parts = sym (append-nil h.back);
        first = many_at_most P n h.back xs (omega arith) h.second;
        second = record { nothing = refl; value = refl };
      };
    })

module _ {E T A : Type 0} (kind : T → ℕ) (P : List T → A → Type 0) (r : List T → Read E T A) (f n : List ℕ)
    (reads : Reads kind P r f false n) (clear : apart f n ≡ true) where
  -- no item is empty
  item_long : (ts : List T) (x : A) → P ts x → 0 < length ts
  item_long [] x h = absurd (let no : false ≡ true = reads.begins [] x h in cc)
  item_long (t ∷ ts) x h = omega arith

  many_long : (ts : List T) (xs : List A) → Many P ts xs → length xs ≤ length ts
  many_long ts [] h = omega arith
  many_long ts (x ∷ xs) h =
      omega (arith, item_long h.front x h.first, many_long h.back xs h.second, ap length h.parts, length-append h.front h.back)

  pub shorter : (ts rest : List T) (x : A) → r ts ≡ Ok (x, rest) → length rest < length ts
  shorter ts rest x e =
      let t = reads.takes ts rest x e in
      omega (arith, item_long t.used x t.whole, ap length t.parts, length-append t.used rest)

  -- what follows an item is read with other fuel
  other_fuel : (m k : ℕ) (ts : List T) (o : Read E T A) → r ts ≡ o → ((us : List T) → length us < length ts → many_by kind f r m us ≡ many_by kind f r k us)
      → follow o (λ x us. follow (many_by kind f r m us) (λ xs. done_at (x ∷ xs))) ≡ follow o (λ x us. follow (many_by kind f r k us) (λ xs. done_at (x ∷ xs)))
  other_fuel m k ts (Ok x) e h = ap (λ (o : Read E T (List A)). follow o (λ xs. done_at (x.0 ∷ xs))) (h x.1 (shorter ts x.1 x.0 e))
  other_fuel m k ts (Err c) e h = refl

  -- enough turns are enough
  fuel : (m k : ℕ) (ts : List T) → length ts ≤ m → length ts ≤ k → many_by kind f r m ts ≡ many_by kind f r k ts
  unfolding many_by
  fuel zero zero ts lm lk = refl
  fuel zero (suc k) [] lm lk = refl
  fuel zero (suc k) (t ∷ ts) lm lk = absurd (omega arith)
  fuel (suc m) zero [] lm lk = refl
  fuel (suc m) zero (t ∷ ts) lm lk = absurd (omega arith)
  fuel (suc m) (suc k) ts lm lk =
      ap (λ (o : Read E T (List A)). cond (starts kind f ts) o (Ok ([], ts))) (other_fuel m k ts (r ts) refl (λ us s. fuel m k us (omega arith) (omega arith)))

  -- one turn of the loop
  pub many_turn : (ts : List T) → many_at kind f r ts ≡ cond (starts kind f ts) (follow (r ts) (λ x us. follow (many_at kind f r us) (λ xs. done_at (x ∷ xs)))) (Ok ([], ts))
  unfolding many_at many_by
  many_turn [] = refl
  many_turn (t ∷ ts) = ap (λ (o : Read E T (List A)). cond (has f (kind t)) o (Ok ([], t ∷ ts))) (go (r (t ∷ ts)) refl)
    where
      go : (o : Read E T A) → r (t ∷ ts) ≡ o → follow o (λ x us. follow (many_by kind f r (length ts) us) (λ xs. done_at (x ∷ xs))) ≡ follow o (λ x us. follow (many_by kind f r (length us) us) (λ xs. done_at (x ∷ xs)))
      go (Ok x) e =
          let s = shorter (t ∷ ts) x.1 x.0 e in
          ap (λ (o : Read E T (List A)). follow o (λ xs. done_at (x.0 ∷ xs))) (fuel (length ts) (length x.1) x.1 (omega arith) (omega arith))
      go (Err e') e = refl

  pub by_reads : (m : ℕ) → Reads kind (AtMost P m) (many_by kind f r m) f true (n ++ f)
  unfolding many_by
  by_reads zero = wider_reads f true (n ++ f) refl refl refl (done_reads {E = E} kind [])
  by_reads (suc m) =
      let rest = λ (x : A). then_reads kind (AtMost P m) (λ xs. Done (x ∷ xs)) (many_by kind f r m) (λ xs. done_at (x ∷ xs)) f true (n ++ f) [] true [] (by_reads m) (λ xs. done_reads kind (x ∷ xs)) refl in
      let some = then_reads kind P (λ x. Then (AtMost P m) (λ xs. Done (x ∷ xs))) r (λ x us. follow (many_by kind f r m us) (λ xs. done_at (x ∷ xs))) f false n (f ++ []) true (n ++ f) reads rest (rw append-nil clear) in
      let all = either_reads kind (Then P (λ x. Then (AtMost P m) (λ xs. Done (x ∷ xs)))) (Done []) (λ ts. follow (r ts) (λ x us. follow (many_by kind f r m us) (λ xs. done_at (x ∷ xs)))) (done_at []) f ((n ++ f) ++ n) [] true [] some (done_reads {E = E} kind []) refl in
      larger_reads f true (n ++ f) (λ q h. rw append-nil at h) refl (in_loop n f) all

  pub many_begins : (ts : List T) (xs : List A) → Many P ts xs → begins_so kind f true ts ≡ true
  many_begins ts xs h = (by_reads (length xs)).begins ts xs (many_at_most P (length xs) ts xs (omega arith) h)

  many_takes : (ts rest : List T) (xs : List A) → many_at kind f r ts ≡ Ok (xs, rest) → Taken (Many P) ts rest xs
  unfolding many_at
  many_takes ts rest xs e = let t = (by_reads (length ts)).takes ts rest xs e in record { used = t.used; parts = t.parts; whole = at_most_many P (length ts) t.used xs t.whole }

  many_again : (used rest : List T) (xs : List A) → Many P used xs → starts kind (n ++ f) rest ≡ false → many_at kind f r (used ++ rest) ≡ Ok (xs, rest)
  unfolding many_at
  many_again used rest xs h free =
      let some : AtMost P (length (used ++ rest)) used xs = many_at_most P (length (used ++ rest)) used xs (omega (arith, many_long used xs h, length-append used rest)) h in
      (by_reads (length (used ++ rest))).again used rest xs some free

  many_completes : (ts : List T) (c : E) (k : ℕ) → many_at kind f r ts ≡ Err (c, k) → GoesOn (Many P) ts k
  unfolding many_at
  many_completes ts c k e = let g = (by_reads (length ts)).completes ts c k e in record { front = g.front; rest = g.rest; more = g.more; value = g.value; parts = g.parts; left = g.left; whole = at_most_many P (length ts) (g.front ++ g.more) g.value g.whole }

  -- enough fuel for two lists
  many_local_ok : (front rest rest' : List T) (xs : List A) → Alike rest rest' → many_at kind f r (front ++ rest) ≡ Ok (xs, rest) → many_at kind f r (front ++ rest') ≡ Ok (xs, rest')
  unfolding many_at
  many_local_ok front rest rest' xs a e =
      let k = length (front ++ rest) + length (front ++ rest') in
      let one : many_by kind f r k (front ++ rest) ≡ Ok (xs, rest) = fuel k (length (front ++ rest)) (front ++ rest) (omega arith) (omega arith) ∙ e in
      fuel (length (front ++ rest')) k (front ++ rest') (omega arith) (omega arith) ∙ (by_reads k).local_ok front rest rest' xs a one

  many_local_err : (front rest rest' : List T) (c : E) → Alike rest rest' → many_at kind f r (front ++ rest) ≡ Err (c, length rest) → many_at kind f r (front ++ rest') ≡ Err (c, length rest')
  unfolding many_at
  many_local_err front rest rest' c a e =
      let k = length (front ++ rest) + length (front ++ rest') in
      let one : many_by kind f r k (front ++ rest) ≡ Err (c, length rest) = fuel k (length (front ++ rest)) (front ++ rest) (omega arith) (omega arith) ∙ e in
      fuel (length (front ++ rest')) k (front ++ rest') (omega arith) (omega arith) ∙ (by_reads k).local_err front rest rest' c a one

  pub many_reads : Reads kind (Many P) (many_at kind f r) f true (n ++ f)
  many_reads = record { begins = many_begins; takes = many_takes; again = many_again; completes = many_completes; local_ok = many_local_ok; local_err = many_local_err }

pub repeated : {E T A : Type 0} {kind : T → ℕ} {P : List T → A → Type 0} {r : List T → Read E T A} {f n : List ℕ} → Reads kind P r f false n → apart f n ≡ true → Reads kind (Many P) (many_at kind f r) f true (n ++ f)
repeated {kind = kind} {P = P} {r = r} {f = f} {n = n} reads clear = many_reads kind P r f n reads clear
