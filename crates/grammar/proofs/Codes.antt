-- The code of a fault in a whole list: the limit's own where the token goes on past the limit, another where it doesn't.
use Rattle.std.proofs.Common.{◌≡◌, ℕ, Bool, List, [], ◌∷◌, length, Ok, Err, refl, sym, ap, subst, ◌∙◌}
use Rattle.grammar.specs.Readers.{Read, end_at, ended, all_at}
use Rattle.grammar.specs.Faults.{Stuck, FaultAt, Opens}
use Rattle.grammar.proofs.KindSets.{one_cut}
use Rattle.grammar.proofs.Whole.{all_fault}
use Rattle.grammar.proofs.Limits.{Limited}

-- no list goes on where it is stuck
pub no_opens : {T A : Type 0} {P : List T → A → Type 0} {ts : List T} {n : ℕ} → FaultAt P ts n → Opens P ts n → ⊥
no_opens {T = T} {P = P} f o =
    let cut = one_cut f.front o.front f.rest (o.token ∷ o.rest) (sym f.parts ∙ o.parts) (f.left ∙ sym o.left) in
    let stuck : Stuck P o.front (o.token ∷ o.rest) = subst (λ (u : List T). Stuck P o.front u) cut.1 (subst (λ (u : List T). Stuck P u f.rest) cut.0 f.stuck) in
    stuck o.viable

module _ {E T A : Type 0} {c : E} {kind : T → ℕ} {P P' : List T → A → Type 0} {r r' : List T → Read E T A} {f : List ℕ} {e : Bool} {n : List ℕ}
    (both : Limited c kind P P' r r' f e n) (code : E) (other : code ≡ c → ⊥) where
  from_reader : (o : Read E T A) (m : ℕ) → ended code o ≡ Err (c, m) → o ≡ Err (c, m)
  from_reader (Ok q) m h = absurd (go q.1 h)
    where
      go : (rest : List T) → end_at code q.0 rest ≡ Err (c, m) → ⊥
      go [] h = cc
      go (t ∷ rest) h = other (let same : ◌≡◌ {A = E × ℕ} (code, length (t ∷ rest)) (c, m) = cc in ap (λ (u : E × ℕ). u.0) same)
  from_reader (Err g) m h = ap (λ (u : E × ℕ). Err u) (let same : g ≡ (c, m) = cc in same)

  -- a fault by the code stands at a token that goes on past the limit
  pub special : (ts : List T) (m : ℕ) → all_at r code ts ≡ Err (c, m) → Opens P' ts m
  special ts m h = both.deeper.opens ts m (from_reader (r ts) m h)

  -- a fault by another code is one there too
  pub stays : (ts : List T) (d : E) (m : ℕ) → (d ≡ c → ⊥) → all_at r code ts ≡ Err (d, m) → all_at r' code ts ≡ Err (d, m)
  stays ts d m no_c h = go (r ts) refl h
    where
      go : (o : Read E T A) → r ts ≡ o → ended code o ≡ Err (d, m) → all_at r' code ts ≡ Err (d, m)
      go (Ok q) was h = ap (ended code) (both.deeper.okay ts q.1 q.0 was) ∙ h
      go (Err g) was h = let same : g ≡ (d, m) = cc in ap (ended code) (both.deeper.plain ts d m no_c (was ∙ ap (λ (u : E × ℕ). Err u) same))

  -- so its token doesn't go on past the limit
  pub other_code : (ts : List T) (d : E) (m : ℕ) → (d ≡ c → ⊥) → all_at r code ts ≡ Err (d, m) → Opens P' ts m → ⊥
  other_code ts d m no_c h o = no_opens (all_fault kind P' r' code f e n both.high ts d m (stays ts d m no_c h)) o
