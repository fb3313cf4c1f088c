-- A reader under a limit, and the same under a higher one: a fault of the limit's code stands at a token that the higher one takes, and any other fault is one there too.
use Rattle.std.proofs.Common.{◌≡◌, ℕ, zero, suc, Bool, true, false, cond, List, [], ◌∷◌, ◌++◌, length, Ok, Err, refl, sym, ap, ◌∙◌, append_assoc, inl, inr}
use Rattle.grammar.specs.Productions.{has, One, Done, Then, Many, Either}
use Rattle.grammar.specs.Readers.{Read, starts, one_at, done_at, follow, bar_at, either_at, many_by, many_at, trailing_by, trailing_at}
use Rattle.grammar.specs.Faults.{Viable, Opens}
use Rattle.grammar.proofs.KindSets.{apart}
use Rattle.grammar.proofs.ReaderLaws.{Reads, Some_of}
use Rattle.grammar.proofs.Choices.{chosen}
use Rattle.grammar.proofs.Repeats.{AtMost, at_most_many, by_reads}

-- a reader that never gives the code
pub record Never {E T A : Type 0} (c : E) (r : List T → Read E T A) : Type 0 where
  pub never : (ts : List T) (n : ℕ) → r ts ≡ Err (c, n) → ⊥

pub record Deepens {E T A : Type 0} (c : E) (P P' : List T → A → Type 0) (r r' : List T → Read E T A) : Type 0 where
  pub grows : (ts : List T) (x : A) → P ts x → P' ts x
  pub okay : (ts rest : List T) (x : A) → r ts ≡ Ok (x, rest) → r' ts ≡ Ok (x, rest)
  pub plain : (ts : List T) (d : E) (n : ℕ) → (d ≡ c → ⊥) → r ts ≡ Err (d, n) → r' ts ≡ Err (d, n)
  pub opens : (ts : List T) (n : ℕ) → r ts ≡ Err (c, n) → Opens P' ts n

pub unlimited : {E T A : Type 0} {c : E} (P : List T → A → Type 0) {r : List T → Read E T A} → Never c r → Deepens c P P r r
unlimited P n = record { grows = λ ts x h. h; okay = λ ts rest x e. e; plain = λ ts d k _ e. e; opens = λ ts k e. absurd (n.never ts k e) }

-- ---- never

pub never_one : {E T : Type 0} {c : E} (kind : T → ℕ) (kinds : List ℕ) (code : E) → (code ≡ c → ⊥) → Never c (one_at kind kinds code)
never_one {E = E} {T = T} {c = c} kind kinds code other = record { never = go }
  where
    test : (b : Bool) (x : T × List T) (f g : E × ℕ) → cond b (Ok x) (Err f) ≡ Err g → f ≡ g
    test true x f g e = absurd cc
    test false x f g e = cc

    go : (ts : List T) (n : ℕ) → one_at kind kinds code ts ≡ Err (c, n) → ⊥
    go [] n e = other (ap (λ (q : E × ℕ). q.0) (let same : (code, 0) ≡ (c, n) = cc in same))
    go (t ∷ ts) n e = other (ap (λ (q : E × ℕ). q.0) (test (has kinds (kind t)) (t, ts) (code, length (t ∷ ts)) (c, n) e))

pub never_done : {E T A : Type 0} {c : E} (x : A) → Never {T = T} c (done_at x)
never_done x = record { never = λ ts n e. cc }

never_follow : {E T A B : Type 0} {c : E} (o : Read E T A) (k : A → List T → Read E T B) → ((n : ℕ) → o ≡ Err (c, n) → ⊥) → ((x : A) → Never c (k x)) → (n : ℕ) → follow o k ≡ Err (c, n) → ⊥
never_follow (Ok q) k first second n e = (second q.0).never q.1 n e
never_follow {c = c} (Err f) k first second n e = first n (let same : f ≡ (c, n) = cc in cc)

pub never_then : {E T A B : Type 0} {c : E} {r : List T → Read E T A} {k : A → List T → Read E T B} → Never c r → ((x : A) → Never c (k x)) → Never c (λ ts. follow (r ts) k)
never_then {r = r} {k = k} first second = record { never = λ ts n e. never_follow (r ts) k (first.never ts) second n e }

never_cond : {E T A : Type 0} {c : E} (b : Bool) (x y : Read E T A) → ((n : ℕ) → x ≡ Err (c, n) → ⊥) → ((n : ℕ) → y ≡ Err (c, n) → ⊥) → (n : ℕ) → cond b x y ≡ Err (c, n) → ⊥
never_cond true x y f g n e = f n e
never_cond false x y f g n e = g n e

pub never_either : {E T A : Type 0} {c : E} {r s : List T → Read E T A} (kind : T → ℕ) (f : List ℕ) → Never c r → Never c s → Never c (either_at kind f r s)
never_either {r = r} {s = s} kind f left right = record { never = λ ts n e. never_cond (starts kind f ts) (r ts) (s ts) (left.never ts) (right.never ts) n e }

never_by : {E T A : Type 0} {c : E} {r : List T → Read E T A} (kind : T → ℕ) (f : List ℕ) → Never c r → (m : ℕ) → Never c (many_by kind f r m)
unfolding many_by
never_by kind f item zero = never_done []
never_by kind f item (suc m) = never_either kind f (never_then item (λ x. never_then (never_by kind f item m) (λ xs. never_done (x ∷ xs)))) (never_done [])

pub never_many : {E T A : Type 0} {c : E} {r : List T → Read E T A} (kind : T → ℕ) (f : List ℕ) → Never c r → Never c (many_at kind f r)
unfolding many_at
never_many kind f item = record { never = λ ts n e. (never_by kind f item (length ts)).never ts n e }

never_trail : {E T A B : Type 0} {c : E} {s : List T → Read E T B} {r : List T → Read E T A} (kind : T → ℕ) (fS fP : List ℕ) → Never c s → Never c r → (m : ℕ) → Never c (trailing_by kind fS s fP r m)
unfolding trailing_by
never_trail kind fS fP separator item zero = never_done []
never_trail kind fS fP separator item (suc m) =
    never_either kind fS (never_then separator (λ y. never_either kind fP (never_then item (λ x. never_then (never_trail kind fS fP separator item m) (λ xs. never_done (x ∷ xs)))) (never_done []))) (never_done [])

pub never_trailing : {E T A B : Type 0} {c : E} {s : List T → Read E T B} {r : List T → Read E T A} (kind : T → ℕ) (fS fP : List ℕ) → Never c s → Never c r → Never c (trailing_at kind fS s fP r)
unfolding trailing_at
never_trailing kind fS fP separator item = record { never = λ ts n e. (never_trail kind fS fP separator item (length ts)).never ts n e }

-- ---- deeper

pub deeper_then : {E T A B : Type 0} {c : E} {kind : T → ℕ} {P P' : List T → A → Type 0} {Q Q' : A → List T → B → Type 0} {r r' : List T → Read E T A} {k k' : A → List T → Read E T B} {f n : List ℕ} {b : Bool}
    → Reads kind P r f b n → ((x : A) → Some_of (Q' x)) → Deepens c P P' r r' → ((x : A) → Deepens c (Q x) (Q' x) (k x) (k' x)) → Deepens c (Then P Q) (Then P' Q') (λ ts. follow (r ts) k) (λ ts. follow (r' ts) k')
deeper_then {E = E} {T = T} {A = A} {B = B} {c = c} {P' = P'} {Q' = Q'} {r = r} {r' = r'} {k = k} {k' = k'} reads some first second = record {
  grows = λ ts x h. record { value = h.value; front = h.front; back = h.back; parts = h.parts; first = first.grows h.front h.value h.first; second = (second h.value).grows h.back x h.second };
  okay = λ ts rest x e. okay ts rest x (r ts) refl e;
  plain = λ ts d n other e. plain ts d n other (r ts) refl e;
  opens = λ ts n e. opens ts n (r ts) refl e;
}
  where
    okay : (ts rest : List T) (x : B) (o : Read E T A) → r ts ≡ o → follow o k ≡ Ok (x, rest) → follow (r' ts) k' ≡ Ok (x, rest)
    okay ts rest x (Ok q) was e = ap (λ (o : Read E T A). follow o k') (first.okay ts q.1 q.0 was) ∙ (second q.0).okay q.1 rest x e
    okay ts rest x (Err g) was e = absurd cc

    plain : (ts : List T) (d : E) (n : ℕ) → (d ≡ c → ⊥) → (o : Read E T A) → r ts ≡ o → follow o k ≡ Err (d, n) → follow (r' ts) k' ≡ Err (d, n)
    plain ts d n other (Ok q) was e = ap (λ (o : Read E T A). follow o k') (first.okay ts q.1 q.0 was) ∙ (second q.0).plain q.1 d n other e
    plain ts d n other (Err g) was e =
        let same : g ≡ (d, n) = cc in
        ap (λ (o : Read E T A). follow o k') (first.plain ts d n other (was ∙ ap (λ (u : E × ℕ). Err u) same))

    opens : (ts : List T) (n : ℕ) (o : Read E T A) → r ts ≡ o → follow o k ≡ Err (c, n) → Opens (Then P' Q') ts n
    opens ts n (Ok q) was e =
        let t = reads.takes ts q.1 q.0 was in
        let g = (second q.0).opens q.1 n e in
        let v = g.viable in
        record {
          front = t.used ++ g.front;
          token = g.token;
          rest = g.rest;
          left = g.left;
          parts = t.parts ∙ ap (λ (u : List T). t.used ++ u) g.parts ∙ sym (append_assoc t.used g.front (g.token ∷ g.rest));
          viable = record {
            more = v.more;
            value = v.value;
            whole = record {
              value = q.0;
              front = t.used;
              back = (g.front ++ g.token ∷ []) ++ v.more;
              first = first.grows t.used q.0 t.whole;
              second = v.whole;
              parts = ap (λ (u : List T). u ++ v.more) (append_assoc t.used g.front (g.token ∷ [])) ∙ append_assoc t.used (g.front ++ g.token ∷ []) v.more;
            };
          };
        }
    opens ts n (Err g) was e =
        let same : g ≡ (c, n) = cc in
        let o = first.opens ts n (was ∙ ap (λ (u : E × ℕ). Err u) same) in
        let v = o.viable in
        let q = some v.value in
        record {
          front = o.front;
          token = o.token;
          rest = o.rest;
          left = o.left;
          parts = o.parts;
          viable = record {
            more = v.more ++ q.tokens;
            value = q.value;
            whole = record {
              value = v.value;
              front = (o.front ++ o.token ∷ []) ++ v.more;
              back = q.tokens;
              first = v.whole;
              second = q.whole;
              parts = sym (append_assoc (o.front ++ o.token ∷ []) v.more q.tokens);
            };
          };
        }

pub opens_in : {T A : Type 0} {P Q : List T → A → Type 0} {ts : List T} {n : ℕ} → ((us : List T) (x : A) → P us x → Q us x) → Opens P ts n → Opens Q ts n
opens_in there o = record {
  front = o.front;
  token = o.token;
  rest = o.rest;
  parts = o.parts;
  left = o.left;
  viable = record { more = o.viable.more; value = o.viable.value; whole = there ((o.front ++ o.token ∷ []) ++ o.viable.more) o.viable.value o.viable.whole };
}

pub deeper_either : {E T A : Type 0} {c : E} {P P' Q Q' : List T → A → Type 0} {r r' s s' : List T → Read E T A} (kind : T → ℕ) (f : List ℕ)
    → Deepens c P P' r r' → Deepens c Q Q' s s' → Deepens c (Either P Q) (Either P' Q') (either_at kind f r s) (either_at kind f r' s')
deeper_either {c = c} {r = r} {s = s} kind f left right = record {
  grows = λ ts x h. elim h [ inl p ↦ inl (left.grows ts x p) | inr q ↦ inr (right.grows ts x q) ];
  okay = λ ts rest x e. elim (chosen (starts kind f ts) (r ts) (s ts) (Ok (x, rest)) e) [ inl h ↦ rw h.0 (left.okay ts rest x h.1) | inr h ↦ rw h.0 (right.okay ts rest x h.1) ];
  plain = λ ts d n other e. elim (chosen (starts kind f ts) (r ts) (s ts) (Err (d, n)) e) [ inl h ↦ rw h.0 (left.plain ts d n other h.1) | inr h ↦ rw h.0 (right.plain ts d n other h.1) ];
  opens = λ ts n e. elim (chosen (starts kind f ts) (r ts) (s ts) (Err (c, n)) e) [ inl h ↦ opens_in (λ us x p. inl p) (left.opens ts n h.1) | inr h ↦ opens_in (λ us x p. inr p) (right.opens ts n h.1) ];
}

-- a choice that the limit takes away
pub deeper_bar : {E T A : Type 0} {c : E} {Q : List T → A → Type 0} {q : List T → Read E T A} (kind : T → ℕ) (f : List ℕ) (x : A)
    → ((t : T) → has f (kind t) ≡ true → Viable Q (t ∷ [])) → Deepens c (Done x) (Either Q (Done x)) (bar_at kind f c x) (either_at kind f q (done_at x))
deeper_bar {E = E} {T = T} {A = A} {c = c} {Q = Q} {q = q} kind f x starting = record {
  grows = λ ts y h. inr h;
  okay = λ ts rest y e. okay (starts kind f ts) (q ts) (x, ts) (y, rest) (c, length ts) e;
  plain = λ ts d n other e. absurd (other (plain (starts kind f ts) (x, ts) (c, length ts) (d, n) e));
  opens = λ ts n e. opens ts n e;
}
  where
    okay : (b : Bool) (o : Read E T A) (y z : A × List T) (g : E × ℕ) → cond b (Err g) (Ok y) ≡ Ok z → cond b o (Ok y) ≡ Ok z
    okay true o y z g e = absurd cc
    okay false o y z g e = e

    plain : (b : Bool) (y : A × List T) (g h : E × ℕ) → cond b (Err g) (Ok y) ≡ Err h → h.0 ≡ g.0
    plain true y g h e = ap (λ (u : E × ℕ). u.0) (let same : h ≡ g = cc in same)
    plain false y g h e = absurd cc

    begun : (b : Bool) (y : A × List T) (g h : E × ℕ) → cond b (Err g) (Ok y) ≡ Err h → (b ≡ true) × (g.1 ≡ h.1)
    begun true y g h e = (refl, ap (λ (u : E × ℕ). u.1) (let same : g ≡ h = cc in same))
    begun false y g h e = absurd cc

    opens : (ts : List T) (n : ℕ) → bar_at kind f c x ts ≡ Err (c, n) → Opens (Either Q (Done x)) ts n
    opens [] n e = absurd cc
    opens (t ∷ ts) n e =
        let b = begun (has f (kind t)) (x, t ∷ ts) (c, length (t ∷ ts)) (c, n) e in
        let v = starting t b.0 in
        record { front = []; token = t; rest = ts; parts = refl; left = b.1; viable = record { more = v.more; value = v.value; whole = inl v.whole } }

-- a first token leaves the rest open
pub one_opens : {T B : Type 0} (kind : T → ℕ) (kinds : List ℕ) (Q : T → List T → B → Type 0) → ((x : T) → Some_of (Q x)) → (t : T) → has kinds (kind t) ≡ true → Viable (Then (One kind kinds) Q) (t ∷ [])
one_opens kind kinds Q some t fits =
    let q = some t in
    record { more = q.tokens; value = q.value; whole = record { value = t; front = t ∷ []; back = q.tokens; parts = refl; first = record { alone = refl; fits = fits }; second = q.whole } }

-- ---- repetitions

pub many_grows : {T A : Type 0} (P P' : List T → A → Type 0) → ((ts : List T) (x : A) → P ts x → P' ts x) → (ts : List T) (xs : List A) → Many P ts xs → Many P' ts xs
many_grows P P' there ts [] h = h
many_grows P P' there ts (x ∷ xs) h = record { front = h.front; back = h.back; parts = h.parts; first = there h.front x h.first; second = many_grows P P' there h.back xs h.second }

no_more : {T A : Type 0} (P : List T → A → Type 0) (m : ℕ) → AtMost P m [] []
no_more P zero = record { nothing = refl; value = refl }
no_more P (suc m) = inr (record { nothing = refl; value = refl })

module _ {E T A : Type 0} (c : E) (kind : T → ℕ) (f n n' : List ℕ) (P P' : List T → A → Type 0) (r r' : List T → Read E T A)
    (reads : Reads kind P r f false n) (reads' : Reads kind P' r' f false n') (clear : apart f n ≡ true) (clear' : apart f n' ≡ true) (item : Deepens c P P' r r') where
  deeper_by : (m : ℕ) → Deepens c (AtMost P m) (AtMost P' m) (many_by kind f r m) (many_by kind f r' m)
  unfolding many_by
  deeper_by zero = unlimited (Done []) (never_done [])
  deeper_by (suc m) =
      let some : (x : A) → Some_of (Then (AtMost P' m) (λ xs. Done (x ∷ xs))) = λ x. record { tokens = []; value = x ∷ []; whole = record { value = []; front = []; back = []; parts = refl; first = no_more P' m; second = record { nothing = refl; value = refl } } } in
      let one : (x : A) (xs : List A) → Some_of (Done {T = T} (x ∷ xs)) = λ x xs. record { tokens = []; value = x ∷ xs; whole = record { nothing = refl; value = refl } } in
      deeper_either kind f (deeper_then reads some item (λ x. deeper_then (by_reads kind P r f n reads clear m) (one x) (deeper_by m) (λ xs. unlimited (Done (x ∷ xs)) (never_done (x ∷ xs))))) (unlimited (Done []) (never_done []))

  pub deeper_many : Deepens c (Many P) (Many P') (many_at kind f r) (many_at kind f r')
  unfolding many_at
  deeper_many = record {
    grows = many_grows P P' item.grows;
    okay = λ ts. (deeper_by (length ts)).okay ts;
    plain = λ ts. (deeper_by (length ts)).plain ts;
    opens = λ ts n e. opens_in (at_most_many P' (length ts)) ((deeper_by (length ts)).opens ts n e);
  }
