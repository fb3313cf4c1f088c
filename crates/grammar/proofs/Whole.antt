-- Reading a whole list: it has a value, or a fault stands at the first token at which no list goes on.
use Rattle.std.proofs.Common.{◌≡◌, ℕ, Bool, List, [], ◌∷◌, ◌++◌, length, Result, Ok, Err, refl, sym, ap, subst, ◌∙◌, append_assoc}
use Rattle.std.proofs.lemmas.List.{append-nil}
use Rattle.grammar.specs.Readers.{Read, done_at, end_at, all_at}
use Rattle.grammar.specs.Faults.{Viable, Stuck, FaultAt}
use Rattle.grammar.proofs.ReaderLaws.{Reads}

module _ {E T A : Type 0} (kind : T → ℕ) (P : List T → A → Type 0) (r : List T → Read E T A) (code : E) (f : List ℕ) (e : Bool) (n : List ℕ)
    (reads : Reads kind P r f e n) where
  -- a whole list is read to its end
  whole_read : (ts : List T) (x : A) → P ts x → r ts ≡ Ok (x, [])
  whole_read ts x h = ap r (sym (append-nil ts)) ∙ reads.again ts [] x h refl

  pub all_again : (ts : List T) (x : A) → P ts x → all_at r code ts ≡ Ok x
  all_again ts x h = rw (whole_read ts x h) refl

  stuck_err : (front rest : List T) (c : E) → r (front ++ rest) ≡ Err (c, length rest) → Stuck P front rest
  stuck_err front [] c was =
      λ x h. absurd (let a = whole_read front x h in let b = ap r (append-nil front) in let no : done_at {E = E} x [] ≡ Err (c, 0) = sym a ∙ sym b ∙ was in cc)
  stuck_err front (t ∷ rest) c was =
      λ v. absurd (
      let a = whole_read (front ++ t ∷ v.more) v.value (subst (λ (u : List T). P u v.value) (append_assoc front (t ∷ []) v.more) v.whole) in
      let b = reads.local_err front (t ∷ rest) (t ∷ v.more) c refl was in
      let no : done_at {E = E} v.value [] ≡ Err (c, length (t ∷ v.more)) = sym a ∙ b in cc)

  stuck_ok : (front : List T) (t : T) (rest : List T) (x : A) → r (front ++ t ∷ rest) ≡ Ok (x, t ∷ rest) → Viable P (front ++ t ∷ []) → ⊥
  stuck_ok front t rest x was v =
      let a = whole_read (front ++ t ∷ v.more) v.value (subst (λ (u : List T). P u v.value) (append_assoc front (t ∷ []) v.more) v.whole) in
      let b = reads.local_ok front (t ∷ rest) (t ∷ v.more) x refl was in
      let no : done_at {E = E} v.value [] ≡ done_at x (t ∷ v.more) = sym a ∙ b in
      let tails : ◌≡◌ {A = A × List T} (v.value, []) (x, t ∷ v.more) = cc in
      let end : ◌≡◌ {A = List T} [] (t ∷ v.more) = ap (λ (q : A × List T). q.1) tails in
      cc

  record Outcome (ts : List T) (o : Result A (E × ℕ)) : Type 0 where
    okay : (x : A) → o ≡ Ok x → P ts x
    fault : (c : E) (k : ℕ) → o ≡ Err (c, k) → FaultAt P ts k

  fault_from : (ts front rest : List T) (k : ℕ) → ts ≡ front ++ rest → length rest ≡ k → Viable P front → Stuck P front rest → FaultAt P ts k
  fault_from ts front rest k parts left viable stuck = record { front = front; rest = rest; parts = parts; left = left; viable = viable; stuck = stuck }

  all_outcome : (ts : List T) → Outcome ts (all_at r code ts)
  all_outcome ts = go (r ts) refl
    where
      ended : (x : A) (rest : List T) → r ts ≡ Ok (x, rest) → Outcome ts (end_at code x rest)
      ended x [] was =
          let t = reads.takes ts [] x was in
          let all : ts ≡ t.used = t.parts ∙ append-nil t.used in
          record {
            okay = λ y same. let xy : x ≡ y = cc in subst (λ (z : A). P ts z) xy (subst (λ (u : List T). P u x) (sym all) t.whole);
            fault = λ c k no. absurd cc;
          }
      ended x (s ∷ rest) was =
          let t = reads.takes ts (s ∷ rest) x was in
          record {
            okay = λ y no. absurd cc;
            fault = λ c k same.
                let left : (code, length (s ∷ rest)) ≡ (c, k) = cc in
                fault_from ts t.used (s ∷ rest) k t.parts (ap (λ (q : E × ℕ). q.1) left) (record { more = []; value = x; whole = rw append-nil t.whole }) (stuck_ok t.used s rest x (ap r (sym t.parts) ∙ was));
          }

      go : (o : Read E T A) → r ts ≡ o → Outcome ts (all_at r code ts)
      go (Ok q) was = rw was (ended q.0 q.1 was)
      go (Err q) was =
          let g = reads.completes ts q.0 q.1 was in
          let at : r (g.front ++ g.rest) ≡ Err (q.0, length g.rest) = ap r (sym g.parts) ∙ was ∙ ap (λ (k : ℕ). Err (q.0, k)) (sym g.left) in
          rw was (record {
            okay = λ y no. absurd cc;
            fault = λ c k same.
                let left : q ≡ (c, k) = cc in
                fault_from ts g.front g.rest k g.parts (g.left ∙ ap (λ (u : E × ℕ). u.1) left) (record { more = g.more; value = g.value; whole = g.whole }) (stuck_err g.front g.rest q.0 at);
          })

  pub all_takes : (ts : List T) (x : A) → all_at r code ts ≡ Ok x → P ts x
  all_takes ts x h = (all_outcome ts).okay x h

  pub all_fault : (ts : List T) (c : E) (k : ℕ) → all_at r code ts ≡ Err (c, k) → FaultAt P ts k
  all_fault ts c k h = (all_outcome ts).fault c k h
