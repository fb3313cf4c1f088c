-- What a reader does that reads a production with one token of look-ahead, and that the readers made of such readers do it too.
use Rattle.std.proofs.Common.{◌≡◌, ℕ, suc, Bool, true, false, cond, ◌&&◌, List, [], ◌∷◌, ◌++◌, length, Ok, Err, refl, sym, ap, ◌∙◌, append_assoc, arith, inl, inr, ◌⊎◌}
use Rattle.std.proofs.lemmas.List.{length-append}
use Rattle.grammar.specs.Productions.{has, One, Done, Then}
use Rattle.grammar.specs.Readers.{Read, starts, one_at, done_at, follow}
use Rattle.grammar.proofs.KindSets.{apart, apart_has, Alike, Alike-after, one_cut, has_left, has_right, free_left, free_right}

-- the first token is of these kinds, or there is none and that is allowed
abbrev pub begins_so : {T : Type 0} → (T → ℕ) → List ℕ → Bool → List T → Bool
begins_so kind first empty [] = empty
begins_so kind first empty (t ∷ ts) = has first (kind t)

-- all but the last n tokens begin a list that P takes
pub record GoesOn {T A : Type 0} (P : List T → A → Type 0) (ts : List T) (n : ℕ) : Type 0 where
  pub front : List T
  pub rest : List T
  pub more : List T
  pub value : A
  pub parts : ts ≡ front ++ rest
  pub left : length rest ≡ n
  pub whole : P (front ++ more) value

-- what was taken from the front
pub record Taken {T A : Type 0} (P : List T → A → Type 0) (ts rest : List T) (x : A) : Type 0 where
  pub used : List T
  pub parts : ts ≡ used ++ rest
  pub whole : P used x

pub record Reads {E T A : Type 0} (kind : T → ℕ) (P : List T → A → Type 0) (read : List T → Read E T A) (first : List ℕ) (empty : Bool) (next : List ℕ) : Type 0 where
  pub begins : (ts : List T) (x : A) → P ts x → begins_so kind first empty ts ≡ true
  pub takes : (ts rest : List T) (x : A) → read ts ≡ Ok (x, rest) → Taken P ts rest x
  pub again : (used rest : List T) (x : A) → P used x → starts kind next rest ≡ false → read (used ++ rest) ≡ Ok (x, rest)
  pub completes : (ts : List T) (c : E) (n : ℕ) → read ts ≡ Err (c, n) → GoesOn P ts n
  pub local_ok : (front rest rest' : List T) (x : A) → Alike rest rest' → read (front ++ rest) ≡ Ok (x, rest) → read (front ++ rest') ≡ Ok (x, rest')
  pub local_err : (front rest rest' : List T) (c : E) → Alike rest rest' → read (front ++ rest) ≡ Err (c, length rest) → read (front ++ rest') ≡ Err (c, length rest')

-- ---- one token

test_ok : {E A : Type 0} (b : Bool) (x y : A) (f : E) → cond b (Ok x) (Err f) ≡ Ok y → (b ≡ true) × (x ≡ y)
test_ok true x y f e = (refl, cc)
test_ok false x y f e = absurd cc

test_err : {E A : Type 0} (b : Bool) (x : A) (f g : E) → cond b (Ok x) (Err f) ≡ Err g → (b ≡ false) × (f ≡ g)
test_err true x f g e = absurd cc
test_err false x f g e = (refl, cc)

module _ {E T : Type 0} (kind : T → ℕ) (kinds : List ℕ) (code : E) where
  one_begins : (ts : List T) (x : T) → One kind kinds ts x → begins_so kind kinds false ts ≡ true
  one_begins ts x h = rw h.alone h.fits

  one_takes : (ts rest : List T) (x : T) → one_at kind kinds code ts ≡ Ok (x, rest) → Taken (One kind kinds) ts rest x
  one_takes [] rest x e = absurd cc
  one_takes (t ∷ ts) rest x e =
      let g = test_ok (has kinds (kind t)) (t, ts) (x, rest) (code, length (t ∷ ts)) e in
      let t-is : t ≡ x = ap (λ (q : T × List T). q.0) g.1 in
      let ts-is : ts ≡ rest = ap (λ (q : T × List T). q.1) g.1 in
      record { used = x ∷ []; parts = cc (t-is, ts-is); whole = record { alone = refl; fits = rw (← t-is) g.0 } }

  one_again : (used rest : List T) (x : T) → One kind kinds used x → one_at kind kinds code (used ++ rest) ≡ Ok (x, rest)
  one_again used rest x h = rw (h.alone, h.fits) refl

  one_completes : (sample : T) → has kinds (kind sample) ≡ true → (ts : List T) (c : E) (n : ℕ) → one_at kind kinds code ts ≡ Err (c, n) → GoesOn (One kind kinds) ts n
  one_completes sample fits [] c n e = record { front = []; rest = []; more = sample ∷ []; value = sample; parts = refl; left = ap (λ (q : E × ℕ). q.1) (let same : (code, 0) ≡ (c, n) = cc in same); whole = record { alone = refl; fits = fits } }
  one_completes sample fits (t ∷ ts) c n e =
      let g = test_err (has kinds (kind t)) (t, ts) (code, length (t ∷ ts)) (c, n) e in
      record { front = []; rest = t ∷ ts; more = sample ∷ []; value = sample; parts = refl; left = ap (λ (q : E × ℕ). q.1) g.1; whole = record { alone = refl; fits = fits } }

  one_local_ok : (front rest rest' : List T) (x : T) → Alike rest rest' → one_at kind kinds code (front ++ rest) ≡ Ok (x, rest) → one_at kind kinds code (front ++ rest') ≡ Ok (x, rest')
  one_local_ok front rest rest' x h e =
      let t = one_takes (front ++ rest) rest x e in
      let cut = one_cut front t.used rest rest t.parts refl in
      rw (cut.0, t.whole.alone, t.whole.fits) refl

  one_local_err : (front rest rest' : List T) (c : E) → Alike rest rest' → one_at kind kinds code (front ++ rest) ≡ Err (c, length rest) → one_at kind kinds code (front ++ rest') ≡ Err (c, length rest')
  one_local_err [] [] [] c h e = e
  one_local_err [] [] (y ∷ ys) c h e = absurd h
  one_local_err [] (x ∷ xs) [] c h e = absurd h
  one_local_err [] (x ∷ xs) (y ∷ ys) c h e =
      let g = test_err (has kinds (kind x)) (x, xs) (code, length (x ∷ xs)) (c, length (x ∷ xs)) e in
      let no : has kinds (kind y) ≡ false = ap (λ z. has kinds (kind z)) (sym h) ∙ g.0 in
      let same : code ≡ c = ap (λ (q : E × ℕ). q.0) g.1 in
      rw (no, same) refl
  one_local_err (t ∷ front) rest rest' c h e =
      let g = test_err (has kinds (kind t)) (t, front ++ rest) (code, length (t ∷ (front ++ rest))) (c, length rest) e in
      let long : suc (length (front ++ rest)) ≡ length rest = ap (λ (q : E × ℕ). q.1) g.1 in
      absurd (omega (arith, long, length-append front rest))

pub one_reads : {E T : Type 0} (kind : T → ℕ) (kinds : List ℕ) (code : E) (sample : T) → has kinds (kind sample) ≡ true → Reads kind (One kind kinds) (one_at kind kinds code) kinds false []
one_reads kind kinds code sample fits = record {
  begins = one_begins kind kinds code;
  takes = one_takes kind kinds code;
  again = λ used rest x h _. one_again kind kinds code used rest x h;
  completes = one_completes kind kinds code sample fits;
  local_ok = one_local_ok kind kinds code;
  local_err = one_local_err kind kinds code;
}

-- ---- no token

ok_parts : {E T A : Type 0} (x y : A) (ts rest : List T) → done_at {E = E} x ts ≡ Ok (y, rest) → (x ≡ y) × (ts ≡ rest)
ok_parts {T = T} {A = A} x y ts rest e =
    let same : (x, ts) ≡ (y, rest) = cc in
    (ap (λ (q : A × List T). q.0) same, ap (λ (q : A × List T). q.1) same)

pub done_reads : {E T A : Type 0} (kind : T → ℕ) (x : A) → Reads {E = E} kind (Done x) (done_at x) [] true []
done_reads kind x = record {
  begins = λ ts y h. rw h.nothing refl;
  takes = λ ts rest y e. let s = ok_parts x y ts rest e in record { used = []; parts = s.1; whole = record { nothing = refl; value = sym s.0 } };
  again = λ used rest y h _. cc (h.nothing, h.value);
  completes = λ ts c n e. absurd cc;
  local_ok = λ front rest rest' y h e.
      let s = ok_parts x y (front ++ rest) rest e in
      let cut = one_cut front [] rest rest s.1 refl in
      rw (cut.0, s.0) refl;
  local_err = λ front rest rest' c h e. absurd cc;
}

-- ---- one after the other

abbrev pub then_first : List ℕ → Bool → List ℕ → List ℕ
then_first first true more = first ++ more
then_first first false more = first

abbrev pub then_next : List ℕ → List ℕ → Bool → List ℕ
then_next next more true = more ++ next
then_next next more false = more

begins_then : {T : Type 0} (kind : T → ℕ) (fP : List ℕ) (eP : Bool) (fQ : List ℕ) (eQ : Bool) (front back : List T)
    → begins_so kind fP eP front ≡ true → begins_so kind fQ eQ back ≡ true → begins_so kind (then_first fP eP fQ) (eP && eQ) (front ++ back) ≡ true
begins_then kind fP true fQ eQ [] [] h g = g
begins_then kind fP true fQ eQ [] (t ∷ back) h g = has_right fP fQ (kind t) g
begins_then kind fP true fQ eQ (t ∷ front) back h g = has_left fP fQ (kind t) h
begins_then kind fP false fQ eQ [] back h g = absurd cc
begins_then kind fP false fQ eQ (t ∷ front) back h g = h

-- what comes after P isn't taken for a part of it
free_then : {T : Type 0} (kind : T → ℕ) (nP fQ : List ℕ) (eQ : Bool) (nQ : List ℕ) (back rest : List T)
    → apart fQ nP ≡ true → begins_so kind fQ eQ back ≡ true → starts kind (then_next nP nQ eQ) rest ≡ false → starts kind nP (back ++ rest) ≡ false
free_then kind nP fQ true nQ [] rest a g h = free_right kind nQ nP rest h
free_then kind nP fQ false nQ [] rest a g h = absurd cc
free_then kind nP fQ eQ nQ (t ∷ back) rest a g h = apart_has fQ nP (kind t) a g

free_last : {T : Type 0} (kind : T → ℕ) (nP : List ℕ) (eQ : Bool) (nQ : List ℕ) (rest : List T) → starts kind (then_next nP nQ eQ) rest ≡ false → starts kind nQ rest ≡ false
free_last kind nP true nQ rest h = free_left kind nQ nP rest h
free_last kind nP false nQ rest h = h

-- some list is taken
pub record Some_of {T A : Type 0} (P : List T → A → Type 0) : Type 0 where
  pub tokens : List T
  pub value : A
  pub whole : P tokens value

pub productive : {E T A : Type 0} {kind : T → ℕ} {P : List T → A → Type 0} {read : List T → Read E T A} {first : List ℕ} {empty : Bool} {next : List ℕ} → Reads kind P read first empty next → Some_of P
productive {E = E} {T = T} {A = A} {P = P} {read = read} reads = go (read []) refl
  where
    go : (o : Read E T A) → read [] ≡ o → Some_of P
    go (Ok x) e = let t = reads.takes [] x.1 x.0 e in record { tokens = t.used; value = x.0; whole = t.whole }
    go (Err f) e = let g = reads.completes [] f.0 f.1 e in record { tokens = g.front ++ g.more; value = g.value; whole = g.whole }

module _ {E T A B : Type 0} (kind : T → ℕ) (P : List T → A → Type 0) (Q : A → List T → B → Type 0)
    (r : List T → Read E T A) (k : A → List T → Read E T B)
    (fP : List ℕ) (eP : Bool) (nP : List ℕ) (fQ : List ℕ) (eQ : Bool) (nQ : List ℕ)
    (first : Reads kind P r fP eP nP) (second : (x : A) → Reads kind (Q x) (k x) fQ eQ nQ) (clear : apart fQ nP ≡ true) where
  -- where the first reader stands after ts, and what the second does there
  record Middle (ts : List T) (o : Read E T B) : Type 0 where
    value : A
    mid : List T
    was : r ts ≡ Ok (value, mid)
    then : k value mid ≡ o

  record Failed (ts : List T) (o : Read E T B) : Type 0 where
    fault : E × ℕ
    was : r ts ≡ Err fault
    same : o ≡ Err fault

  split : (ts : List T) (o : Read E T B) → follow (r ts) k ≡ o → Middle ts o ⊎ Failed ts o
  split ts o e = go (r ts) refl
    where
      go : (q : Read E T A) → r ts ≡ q → Middle ts o ⊎ Failed ts o
      go (Ok x) was = inl (record { value = x.0; mid = x.1; was = was; then = rw was at e })
      go (Err f) was = inr (record { fault = f; was = was; same = sym (rw was at e) })

  then_begins : (ts : List T) (y : B) → (Then P Q) ts y → begins_so kind (then_first fP eP fQ) (eP && eQ) ts ≡ true
  then_begins ts y h = rw h.parts (begins_then kind fP eP fQ eQ h.front h.back (first.begins h.front h.value h.first) ((second h.value).begins h.back y h.second))

  then_takes : (ts rest : List T) (y : B) → follow (r ts) k ≡ Ok (y, rest) → Taken (Then P Q) ts rest y
  then_takes ts rest y e =
      elim (split ts (Ok (y, rest)) e) [
        | inl m ↦
            let a = first.takes ts m.mid m.value m.was in
            let b = (second m.value).takes m.mid rest y m.then in
            record {
              used = a.used ++ b.used;
              parts = a.parts ∙ ap (λ (u : List T). a.used ++ u) b.parts ∙ sym (append_assoc a.used b.used rest);
              whole = record { value = m.value; front = a.used; back = b.used; parts = refl; first = a.whole; second = b.whole };
            }
        | inr f ↦ absurd (let no : Ok (y, rest) ≡ Err f.fault = f.same in cc)
      ]

  then_again : (used rest : List T) (y : B) → (Then P Q) used y → starts kind (then_next nP nQ eQ) rest ≡ false → follow (r (used ++ rest)) k ≡ Ok (y, rest)
  then_again used rest y h free =
      let two : k h.value (h.back ++ rest) ≡ Ok (y, rest) = (second h.value).again h.back rest y h.second (free_last kind nP eQ nQ rest free) in
      let stops : starts kind nP (h.back ++ rest) ≡ false = free_then kind nP fQ eQ nQ h.back rest clear ((second h.value).begins h.back y h.second) free in
      let one : r (h.front ++ (h.back ++ rest)) ≡ Ok (h.value, h.back ++ rest) = first.again h.front (h.back ++ rest) h.value h.first stops in
      let cut : used ++ rest ≡ h.front ++ (h.back ++ rest) = ap (λ (u : List T). u ++ rest) h.parts ∙ append_assoc h.front h.back rest in
      ap (λ (u : List T). follow (r u) k) cut ∙ ap (λ (o : Read E T A). follow o k) one ∙ two

  then_completes : (ts : List T) (c : E) (n : ℕ) → follow (r ts) k ≡ Err (c, n) → GoesOn (Then P Q) ts n
  then_completes ts c n e =
      elim (split ts (Err (c, n)) e) [
        | inl m ↦
            let a = first.takes ts m.mid m.value m.was in
            let g = (second m.value).completes m.mid c n m.then in
            record {
              front = a.used ++ g.front;
              rest = g.rest;
              more = g.more;
              value = g.value;
              parts = a.parts ∙ ap (λ (u : List T). a.used ++ u) g.parts ∙ sym (append_assoc a.used g.front g.rest);
              left = g.left;
              whole = record { value = m.value; front = a.used; back = g.front ++ g.more; parts = append_assoc a.used g.front g.more; first = a.whole; second = g.whole };
            }
        | inr f ↦
            let same : (c, n) ≡ f.fault = let e : Err (c, n) ≡ Err f.fault = f.same in cc in
            let g = first.completes ts f.fault.0 f.fault.1 f.was in
            let q = productive (second g.value) in
            record {
              front = g.front;
              rest = g.rest;
              more = g.more ++ q.tokens;
              value = q.value;
              parts = g.parts;
              left = g.left ∙ ap (λ (u : E × ℕ). u.1) (sym same);
              whole = record { value = g.value; front = g.front ++ g.more; back = q.tokens; parts = sym (append_assoc g.front g.more q.tokens); first = g.whole; second = q.whole };
            }
      ]

  then_local_ok : (front rest rest' : List T) (y : B) → Alike rest rest' → follow (r (front ++ rest)) k ≡ Ok (y, rest) → follow (r (front ++ rest')) k ≡ Ok (y, rest')
  then_local_ok front rest rest' y h e =
      elim (split (front ++ rest) (Ok (y, rest)) e) [
        | inl m ↦
            let a = first.takes (front ++ rest) m.mid m.value m.was in
            let b = (second m.value).takes m.mid rest y m.then in
            let whole : front ++ rest ≡ (a.used ++ b.used) ++ rest = a.parts ∙ ap (λ (u : List T). a.used ++ u) b.parts ∙ sym (append_assoc a.used b.used rest) in
            let cut : front ≡ a.used ++ b.used = (one_cut front (a.used ++ b.used) rest rest whole refl).0 in
            let was : r (a.used ++ (b.used ++ rest)) ≡ Ok (m.value, b.used ++ rest) = ap r (sym (a.parts ∙ ap (λ (u : List T). a.used ++ u) b.parts)) ∙ m.was ∙ ap (λ (u : List T). Ok (m.value, u)) b.parts in
            let one : r (a.used ++ (b.used ++ rest')) ≡ Ok (m.value, b.used ++ rest') = first.local_ok a.used (b.used ++ rest) (b.used ++ rest') m.value (Alike-after b.used rest rest' h) was in
            let two : k m.value (b.used ++ rest') ≡ Ok (y, rest') = (second m.value).local_ok b.used rest rest' y h (ap (k m.value) (sym b.parts) ∙ m.then) in
            let all : front ++ rest' ≡ a.used ++ (b.used ++ rest') = ap (λ (u : List T). u ++ rest') cut ∙ append_assoc a.used b.used rest' in
            ap (λ (u : List T). follow (r u) k) all ∙ ap (λ (o : Read E T A). follow o k) one ∙ two
        | inr f ↦ absurd (let no : Ok (y, rest) ≡ Err f.fault = f.same in cc)
      ]

  then_local_err : (front rest rest' : List T) (c : E) → Alike rest rest' → follow (r (front ++ rest)) k ≡ Err (c, length rest) → follow (r (front ++ rest')) k ≡ Err (c, length rest')
  then_local_err front rest rest' c h e =
      elim (split (front ++ rest) (Err (c, length rest)) e) [
        | inl m ↦
            let a = first.takes (front ++ rest) m.mid m.value m.was in
            let b = (second m.value).completes m.mid c (length rest) m.then in
            let whole : front ++ rest ≡ (a.used ++ b.front) ++ b.rest = a.parts ∙ ap (λ (u : List T). a.used ++ u) b.parts ∙ sym (append_assoc a.used b.front b.rest) in
            let cuts = one_cut front (a.used ++ b.front) rest b.rest whole (sym b.left) in
            let mid : m.mid ≡ b.front ++ rest = b.parts ∙ ap (λ (u : List T). b.front ++ u) (sym cuts.1) in
            let was : r (a.used ++ (b.front ++ rest)) ≡ Ok (m.value, b.front ++ rest) = ap r (sym (a.parts ∙ ap (λ (u : List T). a.used ++ u) mid)) ∙ m.was ∙ ap (λ (u : List T). Ok (m.value, u)) mid in
            let one : r (a.used ++ (b.front ++ rest')) ≡ Ok (m.value, b.front ++ rest') = first.local_ok a.used (b.front ++ rest) (b.front ++ rest') m.value (Alike-after b.front rest rest' h) was in
            let two : k m.value (b.front ++ rest') ≡ Err (c, length rest') = (second m.value).local_err b.front rest rest' c h (ap (k m.value) (sym mid) ∙ m.then) in
            let all : front ++ rest' ≡ a.used ++ (b.front ++ rest') = ap (λ (u : List T). u ++ rest') cuts.0 ∙ append_assoc a.used b.front rest' in
            ap (λ (u : List T). follow (r u) k) all ∙ ap (λ (o : Read E T A). follow o k) one ∙ two
        | inr f ↦
            let same : f.fault ≡ (c, length rest) = let e : Err (c, length rest) ≡ Err f.fault = f.same in cc in
            let one : r (front ++ rest') ≡ Err (c, length rest') = first.local_err front rest rest' c h (f.was ∙ ap (λ (u : E × ℕ). Err u) same) in
            ap (λ (o : Read E T A). follow o k) one
      ]

  pub then_reads : Reads kind (Then P Q) (λ ts. follow (r ts) k) (then_first fP eP fQ) (eP && eQ) (then_next nP nQ eQ)
  then_reads = record { begins = then_begins; takes = then_takes; again = then_again; completes = then_completes; local_ok = then_local_ok; local_err = then_local_err }
