-- Items behind separators, with a last separator that may be left out.
use Rattle.std.proofs.Common.{◌≡◌, ℕ, zero, suc, ◌+◌, ◌<◌, ◌≤◌, Bool, true, false, cond, List, [], ◌∷◌, ◌++◌, length, Option, Some, None, Ok, Err, refl, sym, ap, subst, ◌∙◌, append_assoc, arith, inl, inr}
use Rattle.std.proofs.lemmas.List.{length-append, append-nil}
use Rattle.grammar.specs.Productions.{has, Done, Then, Optional, Many, Either, Trailing}
use Rattle.grammar.specs.Readers.{Read, starts, done_at, follow, trailing_by, trailing_at, after_front}
use Rattle.grammar.proofs.KindSets.{apart, apart_none, has_either, has_left, has_right}
use Rattle.grammar.proofs.ReaderLaws.{Reads, then_reads, done_reads}
use Rattle.grammar.proofs.Choices.{larger_reads, andthen, orelse}

-- a reader that makes as many turns as it has tokens
pub fueled_reads : {E T A : Type 0} {kind : T → ℕ} {P : List T → A → Type 0} {f : List ℕ} {e : Bool} {n : List ℕ} (some : ℕ → List T → A → Type 0) (r : ℕ → List T → Read E T A)
    → ((m : ℕ) → Reads kind (some m) (r m) f e n) → ((m : ℕ) (ts : List T) (x : A) → some m ts x → P ts x) → ((m : ℕ) (ts : List T) (x : A) → length ts ≤ m → P ts x → some m ts x)
    → ((m k : ℕ) (ts : List T) → length ts ≤ m → length ts ≤ k → r m ts ≡ r k ts) → Reads kind P (λ ts. r (length ts) ts) f e n
fueled_reads some r each down up fuel = record {
  begins = λ ts x h. (each (length ts)).begins ts x (up (length ts) ts x (omega arith) h);
  takes = λ ts rest x e. let t = (each (length ts)).takes ts rest x e in record { used = t.used; parts = t.parts; whole = down (length ts) t.used x t.whole };
  again = λ used rest x h free. (each (length (used ++ rest))).again used rest x (up (length (used ++ rest)) used x (omega (arith, length-append used rest)) h) free;
  completes = λ ts c k e. let g = (each (length ts)).completes ts c k e in record { front = g.front; rest = g.rest; more = g.more; value = g.value; parts = g.parts; left = g.left; whole = down (length ts) (g.front ++ g.more) g.value g.whole };
  local_ok = λ front rest rest' x a e.
      let k = length (front ++ rest) + length (front ++ rest') in
      fuel (length (front ++ rest')) k (front ++ rest') (omega arith) (omega arith) ∙ (each k).local_ok front rest rest' x a (fuel k (length (front ++ rest)) (front ++ rest) (omega arith) (omega arith) ∙ e);
  local_err = λ front rest rest' c a e.
      let k = length (front ++ rest) + length (front ++ rest') in
      fuel (length (front ++ rest')) k (front ++ rest') (omega arith) (omega arith) ∙ (each k).local_err front rest rest' c a (fuel k (length (front ++ rest)) (front ++ rest) (omega arith) (omega arith) ∙ e);
}

-- the same with at most n separators
abbrev pub Trail : {T A B : Type 0} → (List T → B → Type 0) → (List T → A → Type 0) → ℕ → List T → List A → Type 0
Trail S P zero = Done []
Trail S P (suc n) = Either (Then S (λ separator. Either (Then P (λ x. Then (Trail S P n) (λ xs. Done (x ∷ xs)))) (Done []))) (Done [])

trailing_nil : {T A B : Type 0} (S : List T → B → Type 0) (P : List T → A → Type 0) → Trailing S P [] []
trailing_nil S P = record { value = []; front = []; back = []; parts = refl; first = refl; second = record { value = None; front = []; back = []; parts = refl; first = refl; second = record { nothing = refl; value = refl } } }

trailing_one : {T A B : Type 0} (S : List T → B → Type 0) (P : List T → A → Type 0) (ts : List T) (y : B) → S ts y → Trailing S P ts []
trailing_one S P ts y h = record { value = []; front = []; back = ts; parts = refl; first = refl; second = record { value = Some y; front = ts; back = []; parts = sym (append-nil ts); first = h; second = record { nothing = refl; value = refl } } }

-- one item more, in front
trailing_more : {T A B : Type 0} (S : List T → B → Type 0) (P : List T → A → Type 0) (a b ts : List T) (y : B) (x : A) (xs : List A) → S a y → P b x → Trailing S P ts xs → Trailing S P (a ++ (b ++ ts)) (x ∷ xs)
trailing_more {T = T} {A = A} S P a b ts y x xs s p h =
    let l = h.second in
    let values : xs ≡ h.value = l.second.value in
    record {
      value = x ∷ h.value;
      front = (a ++ b) ++ h.front;
      back = h.back;
      parts = ap (λ (u : List T). a ++ (b ++ u)) h.parts ∙ sym (append_assoc a b (h.front ++ h.back)) ∙ sym (append_assoc (a ++ b) h.front h.back);
      first = record { front = a ++ b; back = h.front; parts = refl; first = record { value = y; front = a; back = b; parts = refl; first = s; second = p }; second = h.first };
      second = record { value = l.value; front = l.front; back = l.back; parts = l.parts; first = l.first; second = record { nothing = l.second.nothing; value = ap (λ (u : List A). x ∷ u) values } };
    }

trail_down : {T A B : Type 0} (S : List T → B → Type 0) (P : List T → A → Type 0) (n : ℕ) (ts : List T) (xs : List A) → Trail S P n ts xs → Trailing S P ts xs
trail_down S P zero ts xs h = rw (h.nothing, h.value) (trailing_nil S P)
trail_down S P (suc n) ts xs (inr h) = rw (h.nothing, h.value) (trailing_nil S P)
trail_down {T = T} {A = A} {B = B} S P (suc n) ts xs (inl h) =
    elim h.second [
      | inl g ↦
          let d = g.second in
          let back : g.back ≡ d.front = d.parts ∙ ap (λ (u : List T). d.front ++ u) d.second.nothing ∙ append-nil d.front in
          let all : ts ≡ h.front ++ (g.front ++ d.front) = h.parts ∙ ap (λ (u : List T). h.front ++ u) g.parts ∙ ap (λ (u : List T). h.front ++ (g.front ++ u)) back in
          let more = trailing_more S P h.front g.front d.front h.value g.value d.value h.first g.first (trail_down S P n d.front d.value d.first) in
          subst (λ (u : List T). Trailing S P u xs) (sym all) (subst (λ (v : List A). Trailing S P (h.front ++ (g.front ++ d.front)) v) (sym d.second.value) more)
      | inr g ↦
          let all : ts ≡ h.front = h.parts ∙ ap (λ (u : List T). h.front ++ u) g.nothing ∙ append-nil h.front in
          subst (λ (u : List T). Trailing S P u xs) (sym all) (subst (λ (v : List A). Trailing S P h.front v) (sym g.value) (trailing_one S P h.front h.value h.first))
    ]

module _ {E T A B : Type 0} (kind : T → ℕ) (S : List T → B → Type 0) (P : List T → A → Type 0) (s : List T → Read E T B) (r : List T → Read E T A) (fS fP nP : List ℕ)
    (separator : Reads kind S s fS false []) (item : Reads kind P r fP false nP) (clear : apart fS nP ≡ true) where
  long_separator : (ts : List T) (y : B) → S ts y → 0 < length ts
  long_separator [] y h = absurd (let no : false ≡ true = separator.begins [] y h in cc)
  long_separator (t ∷ ts) y h = omega arith

  shorter_separator : (ts rest : List T) (y : B) → s ts ≡ Ok (y, rest) → length rest < length ts
  shorter_separator ts rest y e =
      let t = separator.takes ts rest y e in
      omega (arith, long_separator t.used y t.whole, ap length t.parts, length-append t.used rest)

  no_longer : (ts rest : List T) (x : A) → r ts ≡ Ok (x, rest) → length rest ≤ length ts
  no_longer ts rest x e =
      let t = item.takes ts rest x e in
      omega (arith, ap length t.parts, length-append t.used rest)

  trail_up : (n : ℕ) (xs : List A) (o : Option B) (front back : List T) → length (front ++ back) ≤ n → Many (Then S (λ y. P)) front xs → Optional S back o → Trail S P n (front ++ back) xs
  trail_up zero [] None front back le m q = rw (m, q) (record { nothing = refl; value = refl })
  trail_up (suc n) [] None front back le m q = rw (m, q) (inr (record { nothing = refl; value = refl }))
  trail_up zero [] (Some y) front back le m q = absurd (omega (arith, long_separator back y q, length-append front back))
  trail_up (suc n) [] (Some y) front back le m q =
      inl (record { value = y; front = back; back = []; parts = ap (λ (u : List T). u ++ back) m ∙ sym (append-nil back); first = q; second = inr (record { nothing = refl; value = refl }) })
  trail_up zero (x ∷ xs) o front back le m q =
      absurd (omega (arith, long_separator m.first.front m.first.value m.first.first, ap length m.first.parts, ap length m.parts, length-append m.first.front m.first.back, length-append m.front m.back, length-append front back))
  trail_up (suc n) (x ∷ xs) o front back le m q =
      let g = m.first in
      let tail : length (m.back ++ back) ≤ n = omega (arith, long_separator g.front g.value g.first, ap length g.parts, ap length m.parts, length-append g.front g.back, length-append m.front m.back, length-append front back, length-append m.back back) in
      inl (record {
        value = g.value;
        front = g.front;
        back = g.back ++ (m.back ++ back);
        parts = ap (λ (u : List T). u ++ back) m.parts ∙ append_assoc m.front m.back back ∙ ap (λ (u : List T). u ++ (m.back ++ back)) g.parts ∙ append_assoc g.front g.back (m.back ++ back);
        first = g.first;
        second = inl (record {
          value = x;
          front = g.back;
          back = m.back ++ back;
          parts = refl;
          first = g.second;
          second = record { value = xs; front = m.back ++ back; back = []; parts = sym (append-nil (m.back ++ back)); first = trail_up n xs o m.back back tail m.second q; second = record { nothing = refl; value = refl } };
        });
      })

  trailing_up : (n : ℕ) (ts : List T) (xs : List A) → length ts ≤ n → Trailing S P ts xs → Trail S P n ts xs
  trailing_up n ts xs le h =
      let l = h.second in
      let back : h.back ≡ l.front = l.parts ∙ ap (λ (u : List T). l.front ++ u) l.second.nothing ∙ append-nil l.front in
      let all : ts ≡ h.front ++ l.front = h.parts ∙ ap (λ (u : List T). h.front ++ u) back in
      let made = trail_up n h.value l.value h.front l.front (rw all at le) h.first l.first in
      subst (λ (u : List T). Trail S P n u xs) (sym all) (subst (λ (v : List A). Trail S P n (h.front ++ l.front) v) (sym l.second.value) made)

  after_separator : (g h : List T → Read E T (List A)) (us : List T) → ((vs : List T) → length vs ≤ length us → g vs ≡ h vs)
      → cond (starts kind fP us) (follow (r us) (λ x vs. follow (g vs) (λ xs. done_at (x ∷ xs)))) (Ok ([], us)) ≡ cond (starts kind fP us) (follow (r us) (λ x vs. follow (h vs) (λ xs. done_at (x ∷ xs)))) (Ok ([], us))
  after_separator g h us same = ap (λ (o : Read E T (List A)). cond (starts kind fP us) o (Ok ([], us))) (go (r us) refl)
    where
      go : (o : Read E T A) → r us ≡ o → follow o (λ x vs. follow (g vs) (λ xs. done_at (x ∷ xs))) ≡ follow o (λ x vs. follow (h vs) (λ xs. done_at (x ∷ xs)))
      go (Ok q) e = ap (λ (o : Read E T (List A)). follow o (λ xs. done_at (q.0 ∷ xs))) (same q.1 (no_longer us q.1 q.0 e))
      go (Err c) e = refl

  one_turn : (g h : List T → Read E T (List A)) (ts : List T) (o : Read E T B) → s ts ≡ o → ((vs : List T) → length vs < length ts → g vs ≡ h vs)
      → follow o (λ y us. cond (starts kind fP us) (follow (r us) (λ x vs. follow (g vs) (λ xs. done_at (x ∷ xs)))) (Ok ([], us))) ≡ follow o (λ y us. cond (starts kind fP us) (follow (r us) (λ x vs. follow (h vs) (λ xs. done_at (x ∷ xs)))) (Ok ([], us)))
  one_turn g h ts (Ok q) e same = let sh = shorter_separator ts q.1 q.0 e in after_separator g h q.1 (λ vs le. same vs (omega arith))
  one_turn g h ts (Err c) e same = refl

  turns : (m k : ℕ) (ts : List T) → length ts ≤ m → length ts ≤ k → trailing_by kind fS s fP r m ts ≡ trailing_by kind fS s fP r k ts
  unfolding trailing_by
  turns zero zero ts lm lk = refl
  turns zero (suc k) [] lm lk = refl
  turns zero (suc k) (t ∷ ts) lm lk = absurd (omega arith)
  turns (suc m) zero [] lm lk = refl
  turns (suc m) zero (t ∷ ts) lm lk = absurd (omega arith)
  turns (suc m) (suc k) ts lm lk = ap (λ (o : Read E T (List A)). cond (starts kind fS ts) o (Ok ([], ts))) (one_turn (trailing_by kind fS s fP r m) (trailing_by kind fS s fP r k) ts (s ts) refl (λ vs lt. turns m k vs (omega arith) (omega arith)))

  -- one turn of the loop
  pub trailing_turn : (ts : List T) → trailing_at kind fS s fP r ts
      ≡ cond (starts kind fS ts) (follow (s ts) (λ y us. cond (starts kind fP us) (follow (r us) (λ x vs. follow (trailing_at kind fS s fP r vs) (λ xs. done_at (x ∷ xs)))) (Ok ([], us)))) (Ok ([], ts))
  unfolding trailing_at trailing_by
  trailing_turn [] = refl
  trailing_turn (t ∷ ts) =
      ap (λ (o : Read E T (List A)). cond (starts kind fS (t ∷ ts)) o (Ok ([], t ∷ ts)))
      (one_turn (trailing_by kind fS s fP r (length ts)) (λ vs. trailing_by kind fS s fP r (length vs) vs) (t ∷ ts) (s (t ∷ ts)) refl (λ vs lt. turns (length ts) (length vs) vs (omega arith) (omega arith)))

  regroup : (front : List A) (x : A) (o : Read E T (List A)) → follow (follow o (λ xs. done_at (x ∷ xs))) (λ xs. done_at (front ++ xs)) ≡ follow o (λ xs. done_at ((front ++ x ∷ []) ++ xs))
  regroup front x (Ok q) = ap (λ (xs : List A). Ok (xs, q.1)) (sym (append_assoc front (x ∷ []) q.0))
  regroup front x (Err e) = refl

  pub trail_goes_on : (front : List A) (ts us rest : List T) (y : B) (x : A) (whole : Read E T (List A)) → starts kind fS ts ≡ true → s ts ≡ Ok (y, us) → starts kind fP us ≡ true → r us ≡ Ok (x, rest)
      → after_front front (trailing_at kind fS s fP r) ts ≡ whole → (after_front (front ++ x ∷ []) (trailing_at kind fS s fP r) rest ≡ whole) × (length rest < length ts)
  trail_goes_on front ts us rest y x whole begun was begun2 was2 so_far =
      let turn : trailing_at kind fS s fP r ts ≡ follow (trailing_at kind fS s fP r rest) (λ xs. done_at (x ∷ xs)) = trailing_turn ts ∙ rw (begun, was, begun2, was2) refl in (
        sym (regroup front x (trailing_at kind fS s fP r rest)) ∙ ap (λ (o : Read E T (List A)). follow o (λ xs. done_at (front ++ xs))) (sym turn) ∙ so_far,
        omega (arith, shorter_separator ts us y was, no_longer us rest x was2),
      )

  pub trail_fails : (front : List A) (ts us : List T) (y : B) (e : E × ℕ) (whole : Read E T (List A)) → starts kind fS ts ≡ true → s ts ≡ Ok (y, us) → starts kind fP us ≡ true → r us ≡ Err e
      → after_front front (trailing_at kind fS s fP r) ts ≡ whole → whole ≡ Err e
  trail_fails front ts us y e whole begun was begun2 was2 so_far =
      let turn : trailing_at kind fS s fP r ts ≡ Err e = trailing_turn ts ∙ rw (begun, was, begun2, was2) refl in
      sym so_far ∙ ap (λ (o : Read E T (List A)). follow o (λ xs. done_at (front ++ xs))) turn

  pub trail_last : (front : List A) (ts us : List T) (y : B) (whole : Read E T (List A)) → starts kind fS ts ≡ true → s ts ≡ Ok (y, us) → starts kind fP us ≡ false
      → after_front front (trailing_at kind fS s fP r) ts ≡ whole → whole ≡ Ok (front, us)
  trail_last front ts us y whole begun was ended so_far =
      let turn : trailing_at kind fS s fP r ts ≡ Ok ([], us) = trailing_turn ts ∙ rw (begun, was, ended) refl in
      sym so_far ∙ ap (λ (o : Read E T (List A)). follow o (λ xs. done_at (front ++ xs))) turn ∙ ap (λ (xs : List A). Ok (xs, us)) (append-nil front)

  pub trail_ends : (front : List A) (ts : List T) (whole : Read E T (List A)) → starts kind fS ts ≡ false
      → after_front front (trailing_at kind fS s fP r) ts ≡ whole → whole ≡ Ok (front, ts)
  trail_ends front ts whole ended so_far =
      let turn : trailing_at kind fS s fP r ts ≡ Ok ([], ts) = trailing_turn ts ∙ rw ended refl in
      sym so_far ∙ ap (λ (o : Read E T (List A)). follow o (λ xs. done_at (front ++ xs))) turn ∙ ap (λ (xs : List A). Ok (xs, ts)) (append-nil front)

  nexts : (k : ℕ) → has (fS ++ (((fP ++ (((fS ++ (fP ++ nP)) ++ nP) ++ [])) ++ []) ++ [])) k ≡ true → has (fS ++ (fP ++ nP)) k ≡ true
  nexts k h =
      elim (has_either fS (((fP ++ (((fS ++ (fP ++ nP)) ++ nP) ++ [])) ++ []) ++ []) k h) [
        | inl a ↦ has_left fS (fP ++ nP) k a
        | inr b ↦ elim (has_either fP ((fS ++ (fP ++ nP)) ++ nP) k (simp append-nil at b)) [
          | inl c ↦ has_right fS (fP ++ nP) k (has_left fP nP k c)
          | inr d ↦ elim (has_either (fS ++ (fP ++ nP)) nP k d) [
            | inl c ↦ c
            | inr e ↦ has_right fS (fP ++ nP) k (has_right fP nP k e)
          ]
        ]
      ]

  by_reads : (n : ℕ) → Reads kind (Trail S P n) (trailing_by kind fS s fP r n) fS true (fS ++ (fP ++ nP))
  unfolding trailing_by
  by_reads zero = larger_reads fS true (fS ++ (fP ++ nP)) (λ k h. absurd cc) refl (λ k h. absurd cc) (done_reads {E = E} kind [])
  by_reads (suc n) =
      let more = λ (x : A). then_reads kind (Trail S P n) (λ xs. Done (x ∷ xs)) (trailing_by kind fS s fP r n) (λ xs. done_at (x ∷ xs)) fS true (fS ++ (fP ++ nP)) [] true [] (by_reads n) (λ xs. done_reads kind (x ∷ xs)) refl in
      let some = then_reads kind P (λ x. Then (Trail S P n) (λ xs. Done (x ∷ xs))) r (λ x vs. follow (trailing_by kind fS s fP r n vs) (λ xs. done_at (x ∷ xs))) fP false nP (fS ++ []) true (fS ++ (fP ++ nP)) item more (rw append-nil clear) in
      let inner = λ (y : B). orelse some (done_reads {E = E} kind []) refl in
      let outer = andthen separator inner (apart_none (fP ++ [])) in
      let all = orelse outer (done_reads {E = E} kind []) refl in
      larger_reads fS true (fS ++ (fP ++ nP)) (λ k h. rw append-nil at h) refl nexts all

  pub trailing_reads : Reads kind (Trailing S P) (trailing_at kind fS s fP r) fS true (fS ++ (fP ++ nP))
  unfolding trailing_at
  trailing_reads = fueled_reads (Trail S P) (trailing_by kind fS s fP r) by_reads (trail_down S P) trailing_up turns

pub trailed : {E T A B : Type 0} {kind : T → ℕ} {S : List T → B → Type 0} {P : List T → A → Type 0} {s : List T → Read E T B} {r : List T → Read E T A} {fS fP nP : List ℕ}
    → Reads kind S s fS false [] → Reads kind P r fP false nP → apart fS nP ≡ true → Reads kind (Trailing S P) (trailing_at kind fS s fP r) fS true (fS ++ (fP ++ nP))
trailed {kind = kind} {S = S} {P = P} {s = s} {r = r} {fS = fS} {fP = fP} {nP = nP} separator item clear = trailing_reads kind S P s r fS fP nP separator item clear
