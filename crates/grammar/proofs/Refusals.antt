-- A reader that refuses some tokens with a code of its own, and the production that would take them.
use Rattle.std.proofs.Common.{◌≡◌, ℕ, Bool, true, false, cond, List, [], ◌∷◌, ◌++◌, length, Result, Ok, Err, refl, sym, ap, ◌∙◌, arith, inl, inr, ◌⊎◌}
use Rattle.std.proofs.lemmas.List.{length-append, nil_from_length}
use Rattle.grammar.specs.Productions.{has, Either}
use Rattle.grammar.specs.Readers.{Read, starts, either_at, refusing_at}
use Rattle.grammar.specs.Faults.{Viable, Opens}
use Rattle.grammar.proofs.KindSets.{apart, apart_has, Alike, Alike-after, starts_alike}
use Rattle.grammar.proofs.ReaderLaws.{Reads, GoesOn, Taken, productive}
use Rattle.grammar.proofs.Depths.{Deepens, opens_in}

refused : {E A : Type 0} (b : Bool) (f : E) (o z : Result A E) → cond b (Err f) o ≡ z → ((b ≡ true) × (Err f ≡ z)) ⊎ ((b ≡ false) × (o ≡ z))
refused true f o z e = inl (refl, e)
refused false f o z e = inr (refl, e)

module _ {E T A : Type 0} (kind : T → ℕ) (P : List T → A → Type 0) (r : List T → Read E T A) (f n bars : List ℕ) (code : E)
    (reads : Reads kind P r f false n) (clear : apart f bars ≡ true) where
  not_barred : (used rest : List T) (x : A) → P used x → starts kind bars (used ++ rest) ≡ false
  not_barred [] rest x h = absurd (let no_one : false ≡ true = reads.begins [] x h in cc)
  not_barred (t ∷ used) rest x h = apart_has f bars (kind t) clear (reads.begins (t ∷ used) x h)

  same_way : (front rest rest' : List T) → Alike rest rest' → starts kind bars (front ++ rest') ≡ starts kind bars (front ++ rest)
  same_way front rest rest' a = sym (starts_alike kind bars (front ++ rest) (front ++ rest') (Alike-after front rest rest' a))

  refusing_takes : (ts rest : List T) (x : A) → refusing_at kind bars code r ts ≡ Ok (x, rest) → Taken P ts rest x
  refusing_takes ts rest x e = elim (refused (starts kind bars ts) (code, length ts) (r ts) (Ok (x, rest)) e) [ inl h ↦ absurd (let g = h.1 in cc) | inr h ↦ reads.takes ts rest x h.1 ]

  refusing_completes : (ts : List T) (c : E) (m : ℕ) → refusing_at kind bars code r ts ≡ Err (c, m) → GoesOn P ts m
  refusing_completes ts c m e =
      elim (refused (starts kind bars ts) (code, length ts) (r ts) (Err (c, m)) e) [
        | inl h ↦
            let p = productive reads in
            let left : length ts ≡ m = ap (λ (u : E × ℕ). u.1) (let g = h.1 in let same : (code, length ts) ≡ (c, m) = cc in same) in
            record { front = []; rest = ts; more = p.tokens; value = p.value; parts = refl; left = left; whole = p.whole }
        | inr h ↦ reads.completes ts c m h.1
      ]

  refusing_local_ok : (front rest rest' : List T) (x : A) → Alike rest rest' → refusing_at kind bars code r (front ++ rest) ≡ Ok (x, rest) → refusing_at kind bars code r (front ++ rest') ≡ Ok (x, rest')
  refusing_local_ok front rest rest' x a e =
      elim (refused (starts kind bars (front ++ rest)) (code, length (front ++ rest)) (r (front ++ rest)) (Ok (x, rest)) e) [
        | inl h ↦ absurd (let g = h.1 in cc)
        | inr h ↦ rw (same_way front rest rest' a ∙ h.0) (reads.local_ok front rest rest' x a h.1)
      ]

  refusing_local_err : (front rest rest' : List T) (c : E) → Alike rest rest' → refusing_at kind bars code r (front ++ rest) ≡ Err (c, length rest) → refusing_at kind bars code r (front ++ rest') ≡ Err (c, length rest')
  refusing_local_err front rest rest' c a e =
      elim (refused (starts kind bars (front ++ rest)) (code, length (front ++ rest)) (r (front ++ rest)) (Err (c, length rest)) e) [
        | inl h ↦
            let same : ◌≡◌ {A = E × ℕ} (code, length (front ++ rest)) (c, length rest) = let g = h.1 in cc in
            let none : front ≡ [] = nil_from_length front (omega (arith, ap (λ (u : E × ℕ). u.1) same, length-append front rest)) in
            let barred : starts kind bars (front ++ rest') ≡ true = same_way front rest rest' a ∙ h.0 in
            let code-is : code ≡ c = ap (λ (u : E × ℕ). u.0) same in
            rw barred (ap (λ (u : List T). Err (code, length (u ++ rest'))) none ∙ ap (λ (d : E). Err (d, length rest')) code-is)
        | inr h ↦ rw (same_way front rest rest' a ∙ h.0) (reads.local_err front rest rest' c a h.1)
      ]

  pub refusing_reads : Reads kind P (refusing_at kind bars code r) f false n
  refusing_reads = record {
    begins = reads.begins;
    takes = refusing_takes;
    again = λ used rest x h free. rw (not_barred used rest x h) (reads.again used rest x h free);
    completes = refusing_completes;
    local_ok = refusing_local_ok;
    local_err = refusing_local_err;
  }

-- the refused tokens go on where Q is allowed beside P
pub deeper_refusing : {E T A : Type 0} {c : E} {P P' Q : List T → A → Type 0} {r r' q : List T → Read E T A} (kind : T → ℕ) (bars : List ℕ)
    → ((t : T) → has bars (kind t) ≡ true → Viable Q (t ∷ [])) → Deepens c P P' r r' → Deepens c P (Either Q P') (refusing_at kind bars c r) (either_at kind bars q r')
deeper_refusing {E = E} {T = T} {A = A} {c = c} {P = P} {P' = P'} {Q = Q} {r = r} {r' = r'} {q = q} kind bars starting item = record {
  grows = λ ts x h. inr (item.grows ts x h);
  okay = λ ts rest x e. elim (refused (starts kind bars ts) (c, length ts) (r ts) (Ok (x, rest)) e) [ inl h ↦ absurd (let g = h.1 in cc) | inr h ↦ rw h.0 (item.okay ts rest x h.1) ];
  plain = λ ts d m other e. elim (refused (starts kind bars ts) (c, length ts) (r ts) (Err (d, m)) e) [
    | inl h ↦ absurd (other (ap (λ (u : E × ℕ). u.0) (let g = h.1 in let same : (d, m) ≡ (c, length ts) = cc in same)))
    | inr h ↦ rw h.0 (item.plain ts d m other h.1)
  ];
  opens = λ ts m e. elim (refused (starts kind bars ts) (c, length ts) (r ts) (Err (c, m)) e) [
    | inl h ↦ first ts m h.0 (ap (λ (u : E × ℕ). u.1) (let g = h.1 in let same : (c, length ts) ≡ (c, m) = cc in same))
    | inr h ↦ opens_in (λ us x p. inr p) (item.opens ts m h.1)
  ];
}
  where
    first : (ts : List T) (m : ℕ) → starts kind bars ts ≡ true → length ts ≡ m → Opens (Either Q P') ts m
    first [] m b l = absurd cc
    first (t ∷ ts) m b l =
        let v = starting t b in
        record { front = []; token = t; rest = ts; parts = refl; left = l; viable = record { more = v.more; value = v.value; whole = inl v.whole } }
