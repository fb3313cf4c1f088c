-- Choices by the next token, parts that may be missing, repetitions, and readers of equal productions.
use Rattle.std.proofs.Common.{◌≡◌, ℕ, Bool, true, false, cond, ◌&&◌, List, [], ◌∷◌, ◌++◌, length, Option, Some, None, Ok, Err, refl, sym, ap, subst, ◌∙◌, arith, inl, inr, ◌⊎◌}
use Rattle.std.proofs.lemmas.List.{length-append, append-nil, nil_from_length}
use Rattle.grammar.specs.Productions.{Done, Then, Optional, Either}
use Rattle.grammar.specs.Readers.{Read, starts, done_at, follow, optional_at, either_at, bar_at}
use Rattle.grammar.proofs.KindSets.{apart, within, apart_has, within_has, Within, free_Within, Alike, Alike-after, starts_alike, one_cut, has_left, has_right, free_left, free_right}
use Rattle.grammar.proofs.ReaderLaws.{Reads, GoesOn, Taken, begins_so, then_first, then_next, then_reads, done_reads}

-- ---- equal productions, and larger sets

pub same_reads : {E T A : Type 0} {kind : T → ℕ} {P Q : List T → A → Type 0} {read : List T → Read E T A} {first : List ℕ} {empty : Bool} {next : List ℕ}
    → ((ts : List T) (x : A) → P ts x → Q ts x) → ((ts : List T) (x : A) → Q ts x → P ts x) → Reads kind P read first empty next → Reads kind Q read first empty next
same_reads there back reads = record {
  begins = λ ts x h. reads.begins ts x (back ts x h);
  takes = λ ts rest x e. let t = reads.takes ts rest x e in record { used = t.used; parts = t.parts; whole = there t.used x t.whole };
  again = λ used rest x h free. reads.again used rest x (back used x h) free;
  completes = λ ts c n e. let g = reads.completes ts c n e in record { front = g.front; rest = g.rest; more = g.more; value = g.value; parts = g.parts; left = g.left; whole = there (g.front ++ g.more) g.value g.whole };
  local_ok = reads.local_ok;
  local_err = reads.local_err;
}

may : (b c : Bool) → cond b c true ≡ true → b ≡ true → c ≡ true
may true c e h = e
may false c e h = absurd cc

begins_wider : {T : Type 0} (kind : T → ℕ) (f f' : List ℕ) (e e' : Bool) (ts : List T) → Within f f' → cond e e' true ≡ true → begins_so kind f e ts ≡ true → begins_so kind f' e' ts ≡ true
begins_wider kind f f' e e' [] w i h = may e e' i h
begins_wider kind f f' e e' (t ∷ ts) w i h = w (kind t) h

pub larger_reads : {E T A : Type 0} {kind : T → ℕ} {P : List T → A → Type 0} {read : List T → Read E T A} {first : List ℕ} {empty : Bool} {next : List ℕ}
    (first' : List ℕ) (empty' : Bool) (next' : List ℕ) → Within first first' → cond empty empty' true ≡ true → Within next next'
    → Reads kind P read first empty next → Reads kind P read first' empty' next'
larger_reads {kind = kind} {first = first} {empty = empty} {next = next} first' empty' next' f e n reads = record {
  begins = λ ts x h. begins_wider kind first first' empty empty' ts f e (reads.begins ts x h);
  takes = reads.takes;
  again = λ used rest x h free. reads.again used rest x h (free_Within kind next next' rest n free);
  completes = reads.completes;
  local_ok = reads.local_ok;
  local_err = reads.local_err;
}

-- the same by tests that compute
pub wider_reads : {E T A : Type 0} {kind : T → ℕ} {P : List T → A → Type 0} {read : List T → Read E T A} {first : List ℕ} {empty : Bool} {next : List ℕ}
    (first' : List ℕ) (empty' : Bool) (next' : List ℕ) → within first first' ≡ true → cond empty empty' true ≡ true → within next next' ≡ true
    → Reads kind P read first empty next → Reads kind P read first' empty' next'
wider_reads {first = first} {next = next} first' empty' next' f e n reads = larger_reads first' empty' next' (λ k. within_has first first' k f) e (λ k. within_has next next' k n) reads

-- ---- a choice

pub chosen : {A : Type 0} (b : Bool) (x y z : A) → cond b x y ≡ z → ((b ≡ true) × (x ≡ z)) ⊎ ((b ≡ false) × (y ≡ z))
chosen true x y z e = inl (refl, e)
chosen false x y z e = inr (refl, e)

abbrev pub either_next : List ℕ → List ℕ → List ℕ → Bool → List ℕ
either_next nP nQ fP true = fP ++ (nP ++ nQ)
either_next nP nQ fP false = nP ++ nQ

free_both : {T : Type 0} (kind : T → ℕ) (nP nQ fP : List ℕ) (e : Bool) (rest : List T) → starts kind (either_next nP nQ fP e) rest ≡ false → starts kind (nP ++ nQ) rest ≡ false
free_both kind nP nQ fP true rest h = free_right kind fP (nP ++ nQ) rest h
free_both kind nP nQ fP false rest h = h

module _ {E T A : Type 0} (kind : T → ℕ) (P Q : List T → A → Type 0) (r s : List T → Read E T A)
    (fP nP fQ : List ℕ) (eQ : Bool) (nQ : List ℕ)
    (left : Reads kind P r fP false nP) (right : Reads kind Q s fQ eQ nQ) (clear : apart fQ fP ≡ true) where
  either_begins : (ts : List T) (x : A) → Either P Q ts x → begins_so kind (fP ++ fQ) eQ ts ≡ true
  either_begins [] x (inl h) = absurd (let no : false ≡ true = left.begins [] x h in cc)
  either_begins [] x (inr h) = right.begins [] x h
  either_begins (t ∷ ts) x (inl h) = has_left fP fQ (kind t) (left.begins (t ∷ ts) x h)
  either_begins (t ∷ ts) x (inr h) = has_right fP fQ (kind t) (right.begins (t ∷ ts) x h)

  either_takes : (ts rest : List T) (x : A) → either_at kind fP r s ts ≡ Ok (x, rest) → Taken (Either P Q) ts rest x
  either_takes ts rest x e =
      elim (chosen (starts kind fP ts) (r ts) (s ts) (Ok (x, rest)) e) [
        | inl h ↦ let t = left.takes ts rest x h.1 in record { used = t.used; parts = t.parts; whole = inl t.whole }
        | inr h ↦ let t = right.takes ts rest x h.1 in record { used = t.used; parts = t.parts; whole = inr t.whole }
      ]

  goes_left : (used rest : List T) (x : A) → P used x → starts kind fP (used ++ rest) ≡ true
  goes_left [] rest x h = absurd (let no : false ≡ true = left.begins [] x h in cc)
  goes_left (t ∷ used) rest x h = left.begins (t ∷ used) x h

  goes_right : (used rest : List T) (x : A) → Q used x → starts kind (either_next nP nQ fP eQ) rest ≡ false → starts kind fP (used ++ rest) ≡ false
  goes_right [] rest x h free =
      let empty : eQ ≡ true = right.begins [] x h in
      free_left kind fP (nP ++ nQ) rest (subst (λ (b : Bool). starts kind (either_next nP nQ fP b) rest ≡ false) empty free)
  goes_right (t ∷ used) rest x h free = apart_has fQ fP (kind t) clear (right.begins (t ∷ used) x h)

  either_again : (used rest : List T) (x : A) → Either P Q used x → starts kind (either_next nP nQ fP eQ) rest ≡ false → either_at kind fP r s (used ++ rest) ≡ Ok (x, rest)
  either_again used rest x (inl h) free = rw (goes_left used rest x h) (left.again used rest x h (free_left kind nP nQ rest (free_both kind nP nQ fP eQ rest free)))
  either_again used rest x (inr h) free = rw (goes_right used rest x h free) (right.again used rest x h (free_right kind nP nQ rest (free_both kind nP nQ fP eQ rest free)))

  either_completes : (ts : List T) (c : E) (n : ℕ) → either_at kind fP r s ts ≡ Err (c, n) → GoesOn (Either P Q) ts n
  either_completes ts c n e =
      elim (chosen (starts kind fP ts) (r ts) (s ts) (Err (c, n)) e) [
        | inl h ↦ let g = left.completes ts c n h.1 in record { front = g.front; rest = g.rest; more = g.more; value = g.value; parts = g.parts; left = g.left; whole = inl g.whole }
        | inr h ↦ let g = right.completes ts c n h.1 in record { front = g.front; rest = g.rest; more = g.more; value = g.value; parts = g.parts; left = g.left; whole = inr g.whole }
      ]

  same_way : (front rest rest' : List T) → Alike rest rest' → starts kind fP (front ++ rest') ≡ starts kind fP (front ++ rest)
  same_way front rest rest' h = sym (starts_alike kind fP (front ++ rest) (front ++ rest') (Alike-after front rest rest' h))

  either_local_ok : (front rest rest' : List T) (x : A) → Alike rest rest' → either_at kind fP r s (front ++ rest) ≡ Ok (x, rest) → either_at kind fP r s (front ++ rest') ≡ Ok (x, rest')
  either_local_ok front rest rest' x a e =
      elim (chosen (starts kind fP (front ++ rest)) (r (front ++ rest)) (s (front ++ rest)) (Ok (x, rest)) e) [
        | inl h ↦ rw (same_way front rest rest' a ∙ h.0) (left.local_ok front rest rest' x a h.1)
        | inr h ↦ rw (same_way front rest rest' a ∙ h.0) (right.local_ok front rest rest' x a h.1)
      ]

  either_local_err : (front rest rest' : List T) (c : E) → Alike rest rest' → either_at kind fP r s (front ++ rest) ≡ Err (c, length rest) → either_at kind fP r s (front ++ rest') ≡ Err (c, length rest')
  either_local_err front rest rest' c a e =
      elim (chosen (starts kind fP (front ++ rest)) (r (front ++ rest)) (s (front ++ rest)) (Err (c, length rest)) e) [
        | inl h ↦ rw (same_way front rest rest' a ∙ h.0) (left.local_err front rest rest' c a h.1)
        | inr h ↦ rw (same_way front rest rest' a ∙ h.0) (right.local_err front rest rest' c a h.1)
      ]

  pub either_reads : Reads kind (Either P Q) (either_at kind fP r s) (fP ++ fQ) eQ (either_next nP nQ fP eQ)
  either_reads = record { begins = either_begins; takes = either_takes; again = either_again; completes = either_completes; local_ok = either_local_ok; local_err = either_local_err }

-- ---- a part that may be missing

pub present : {T A : Type 0} (P : List T → A → Type 0) (ts : List T) (o : Option A) → Either (Then P (λ x. Done (Some x))) (Done None) ts o → Optional P ts o
present {A = A} P ts o (inl h) = subst (λ (q : Option A). Optional P ts q) (sym h.second.value) (subst (λ (u : List _). P u h.value) (sym (h.parts ∙ ap (λ (u : List _). h.front ++ u) h.second.nothing ∙ append-nil h.front)) h.first)
present P ts o (inr h) = rw h.value h.nothing

pub missing : {T A : Type 0} (P : List T → A → Type 0) (ts : List T) (o : Option A) → Optional P ts o → Either (Then P (λ x. Done (Some x))) (Done None) ts o
missing P ts None h = inr (record { nothing = h; value = refl })
missing P ts (Some x) h = inl (record { value = x; front = ts; back = []; parts = sym (append-nil ts); first = h; second = record { nothing = refl; value = refl } })

pub optional_reads : {E T A : Type 0} (kind : T → ℕ) (P : List T → A → Type 0) (r : List T → Read E T A) (f n : List ℕ) → Reads kind P r f false n
    → Reads kind (Optional P) (optional_at kind f r) (f ++ []) true (f ++ (n ++ []))
optional_reads {E = E} kind P r f n reads =
    let one = then_reads kind P (λ x. Done (Some x)) r (λ x. done_at (Some x)) f false n [] true [] reads (λ x. done_reads kind (Some x)) refl in
    let both = either_reads kind (Then P (λ x. Done (Some x))) (Done None) (λ ts. follow (r ts) (λ x. done_at (Some x))) (done_at None) f n [] true [] one (done_reads {E = E} kind None) refl in
    same_reads (present P) (missing P) both

-- ---- short forms, whose sets come from the parts

pub andthen : {E T A B : Type 0} {kind : T → ℕ} {P : List T → A → Type 0} {Q : A → List T → B → Type 0} {r : List T → Read E T A} {k : A → List T → Read E T B}
    {fP : List ℕ} {eP : Bool} {nP : List ℕ} {fQ : List ℕ} {eQ : Bool} {nQ : List ℕ}
    → Reads kind P r fP eP nP → ((x : A) → Reads kind (Q x) (k x) fQ eQ nQ) → apart fQ nP ≡ true
    → Reads kind (Then P Q) (λ ts. follow (r ts) k) (then_first fP eP fQ) (eP && eQ) (then_next nP nQ eQ)
andthen {kind = kind} {P = P} {Q = Q} {r = r} {k = k} {fP = fP} {eP = eP} {nP = nP} {fQ = fQ} {eQ = eQ} {nQ = nQ} first second clear = then_reads kind P Q r k fP eP nP fQ eQ nQ first second clear

pub orelse : {E T A : Type 0} {kind : T → ℕ} {P Q : List T → A → Type 0} {r s : List T → Read E T A} {fP nP fQ : List ℕ} {eQ : Bool} {nQ : List ℕ}
    → Reads kind P r fP false nP → Reads kind Q s fQ eQ nQ → apart fQ fP ≡ true → Reads kind (Either P Q) (either_at kind fP r s) (fP ++ fQ) eQ (either_next nP nQ fP eQ)
orelse {kind = kind} {P = P} {Q = Q} {r = r} {s = s} {fP = fP} {nP = nP} {fQ = fQ} {eQ = eQ} {nQ = nQ} left right clear = either_reads kind P Q r s fP nP fQ eQ nQ left right clear

pub perhaps : {E T A : Type 0} {kind : T → ℕ} {P : List T → A → Type 0} {r : List T → Read E T A} {f n : List ℕ} → Reads kind P r f false n → Reads kind (Optional P) (optional_at kind f r) (f ++ []) true (f ++ (n ++ []))
perhaps {kind = kind} {P = P} {r = r} {f = f} {n = n} reads = optional_reads kind P r f n reads

-- ---- a token that may not come

barred_ok : {E A : Type 0} (b : Bool) (x y : A) (f : E) → cond b (Err f) (Ok x) ≡ Ok y → (b ≡ false) × (x ≡ y)
barred_ok true x y f e = absurd cc
barred_ok false x y f e = (refl, cc)

barred_err : {E A : Type 0} (b : Bool) (x : A) (f g : E) → cond b (Err f) (Ok x) ≡ Err g → (b ≡ true) × (f ≡ g)
barred_err true x f g e = (refl, cc)
barred_err false x f g e = absurd cc

module _ {E T A : Type 0} (kind : T → ℕ) (kinds : List ℕ) (code : E) (x : A) where
  bar_takes : (ts rest : List T) (y : A) → bar_at kind kinds code x ts ≡ Ok (y, rest) → (starts kind kinds ts ≡ false) × (x ≡ y) × (ts ≡ rest)
  bar_takes ts rest y e =
      let g = barred_ok (starts kind kinds ts) (x, ts) (y, rest) (code, length ts) e in
      (g.0, ap (λ (q : A × List T). q.0) g.1, ap (λ (q : A × List T). q.1) g.1)

  bar_local_ok : (front rest rest' : List T) (y : A) → Alike rest rest' → bar_at kind kinds code x (front ++ rest) ≡ Ok (y, rest) → bar_at kind kinds code x (front ++ rest') ≡ Ok (y, rest')
  bar_local_ok front rest rest' y h e =
      let g = bar_takes (front ++ rest) rest y e in
      let none : front ≡ [] = (one_cut front [] rest rest g.2 refl).0 in
      let free : starts kind kinds rest' ≡ false = sym (starts_alike kind kinds rest rest' h) ∙ ap (starts kind kinds) (sym g.2) ∙ g.0 in
      rw (none, free, g.1) refl

  bar_local_err : (front rest rest' : List T) (c : E) → Alike rest rest' → bar_at kind kinds code x (front ++ rest) ≡ Err (c, length rest) → bar_at kind kinds code x (front ++ rest') ≡ Err (c, length rest')
  bar_local_err front rest rest' c h e =
      let g = barred_err (starts kind kinds (front ++ rest)) (x, front ++ rest) (code, length (front ++ rest)) (c, length rest) e in
      let same : code ≡ c = ap (λ (q : E × ℕ). q.0) g.1 in
      let long : length (front ++ rest) ≡ length rest = ap (λ (q : E × ℕ). q.1) g.1 in
      let none : front ≡ [] = nil_from_length front (omega (arith, long, length-append front rest)) in
      let begun : starts kind kinds rest' ≡ true = sym (starts_alike kind kinds rest rest' h) ∙ ap (λ (u : List T). starts kind kinds (u ++ rest)) (sym none) ∙ g.0 in
      rw (none, begun, same) refl

  pub bar_reads : Reads kind (Done x) (bar_at kind kinds code x) [] true kinds
  bar_reads = record {
    begins = λ ts y h. rw h.nothing refl;
    takes = λ ts rest y e. let g = bar_takes ts rest y e in record { used = []; parts = g.2; whole = record { nothing = refl; value = sym g.1 } };
    again = λ used rest y h free. rw (h.nothing, h.value, free) refl;
    completes = λ ts c n e.
        let g = barred_err (starts kind kinds ts) (x, ts) (code, length ts) (c, n) e in
        record { front = []; rest = ts; more = []; value = x; parts = refl; left = ap (λ (q : E × ℕ). q.1) g.1; whole = record { nothing = refl; value = refl } };
    local_ok = bar_local_ok;
    local_err = bar_local_err;
  }
