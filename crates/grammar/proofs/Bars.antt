-- Repetitions of which a limit takes some items away.
use Rattle.std.proofs.Common.{◌≡◌, ℕ, zero, suc, ◌<◌, ◌≤◌, Bool, true, false, cond, List, [], ◌∷◌, ◌++◌, length, Ok, Err, refl, sym, ap, subst, ◌∙◌, append_assoc, arith, inl, inr}
use Rattle.std.proofs.lemmas.List.{append-nil}
use Rattle.grammar.specs.Productions.{has, Many, Either}
use Rattle.grammar.specs.Readers.{Read, starts, done_at, follow, bar_at, either_at, many_at}
use Rattle.grammar.specs.Faults.{Viable, Opens}
use Rattle.grammar.proofs.KindSets.{apart, has_either, has_left, has_right, starts_apart}
use Rattle.grammar.proofs.ReaderLaws.{Reads}
use Rattle.grammar.proofs.Repeats.{many_turn, shorter}
use Rattle.grammar.proofs.Depths.{Deepens, opens_in, many_grows}

begins_left : {T : Type 0} (kind : T → ℕ) (g f : List ℕ) (ts : List T) → starts kind g ts ≡ true → starts kind (g ++ f) ts ≡ true
begins_left kind g f [] h = absurd cc
begins_left kind g f (t ∷ ts) h = has_left g f (kind t) h

begins_right : {T : Type 0} (kind : T → ℕ) (g f : List ℕ) (ts : List T) → starts kind f ts ≡ true → starts kind (g ++ f) ts ≡ true
begins_right kind g f [] h = absurd cc
begins_right kind g f (t ∷ ts) h = has_right g f (kind t) h

no_begin : (b : Bool) → (b ≡ true → ⊥) → b ≡ false
no_begin true h = absurd (h refl)
no_begin false h = refl

begins_none : {T : Type 0} (kind : T → ℕ) (g f : List ℕ) (ts : List T) → starts kind g ts ≡ false → starts kind f ts ≡ false → starts kind (g ++ f) ts ≡ false
begins_none kind g f [] h k = refl
begins_none kind g f (t ∷ ts) h k = no_begin (has (g ++ f) (kind t)) (λ e. elim (has_either g f (kind t) e) [ inl a ↦ (let x : has g (kind t) ≡ true = a in cc) | inr b ↦ (let x : has f (kind t) ≡ true = b in cc) ])

many_first : {T A : Type 0} (P : List T → A → Type 0) (ts : List T) (x : A) → P ts x → Many P ts (x ∷ [])
many_first P ts x h = record { front = ts; back = []; parts = sym (append-nil ts); first = h; second = refl }

open_first : {T A : Type 0} (P : List T → A → Type 0) (ts : List T) (n : ℕ) → Opens P ts n → Opens (Many P) ts n
open_first P ts n o = record {
  front = o.front;
  token = o.token;
  rest = o.rest;
  parts = o.parts;
  left = o.left;
  viable = record { more = o.viable.more; value = o.viable.value ∷ []; whole = many_first P ((o.front ++ o.token ∷ []) ++ o.viable.more) o.viable.value o.viable.whole };
}

open_later : {T A : Type 0} (P : List T → A → Type 0) (used ts : List T) (x : A) (n : ℕ) → P used x → Opens (Many P) ts n → Opens (Many P) (used ++ ts) n
open_later {T = T} P used ts x n h o = record {
  front = used ++ o.front;
  token = o.token;
  rest = o.rest;
  left = o.left;
  parts = ap (λ (u : List T). used ++ u) o.parts ∙ sym (append_assoc used o.front (o.token ∷ o.rest));
  viable = record {
    more = o.viable.more;
    value = x ∷ o.viable.value;
    whole = record {
      front = used;
      back = (o.front ++ o.token ∷ []) ++ o.viable.more;
      first = h;
      second = o.viable.whole;
      parts = ap (λ (u : List T). u ++ o.viable.more) (append_assoc used o.front (o.token ∷ [])) ∙ append_assoc used (o.front ++ o.token ∷ []) o.viable.more;
    };
  };
}

module _ {E T A : Type 0} (c : E) (kind : T → ℕ) (f g n k : List ℕ) (D D' S : List T → A → Type 0) (d d' s : List T → Read E T A)
    (reads : Reads kind D d f false n) (clear : apart f n ≡ true)
    (reads' : Reads kind (Either S D') (either_at kind g s d') (g ++ f) false k) (clear' : apart (g ++ f) k ≡ true)
    (item : Deepens c D D' d d') (apart_sets : apart f g ≡ true) (starting : (t : T) → has g (kind t) ≡ true → Viable S (t ∷ [])) where
  low : List T → Read E T (List A)
  low ts = follow (many_at kind f d ts) (bar_at kind g c)

  high : List T → Read E T (List A)
  high ts = many_at kind (g ++ f) (either_at kind g s d') ts

  bar_behind : (x : A) (ys : List A) (vs : List T) → bar_at kind g c (x ∷ ys) vs ≡ follow (bar_at kind g c ys vs) (λ xs. done_at (x ∷ xs))
  bar_behind x ys vs = go (starts kind g vs)
    where
      go : (b : Bool) → cond b (Err (c, length vs)) (done_at {E = E} (x ∷ ys) vs) ≡ follow (cond b (Err (c, length vs)) (done_at {E = E} ys vs)) (λ xs. done_at (x ∷ xs))
      go true = refl
      go false = refl

  low_turn : (ts : List T) → low ts ≡ cond (starts kind f ts) (follow (d ts) (λ x us. follow (low us) (λ xs. done_at (x ∷ xs)))) (bar_at kind g c [] ts)
  unfolding low
  low_turn ts = ap (λ (o : Read E T (List A)). follow o (bar_at kind g c)) (many_turn kind D d f n reads clear ts) ∙ go (starts kind f ts)
    where
      inner : (x : A) (o : Read E T (List A)) → follow (follow o (λ xs. done_at (x ∷ xs))) (bar_at kind g c) ≡ follow (follow o (bar_at kind g c)) (λ xs. done_at (x ∷ xs))
      inner x (Ok q) = bar_behind x q.0 q.1
      inner x (Err e) = refl

      outer : (o : Read E T A) → follow (follow o (λ x us. follow (many_at kind f d us) (λ xs. done_at (x ∷ xs)))) (bar_at kind g c) ≡ follow o (λ x us. follow (follow (many_at kind f d us) (bar_at kind g c)) (λ xs. done_at (x ∷ xs)))
      outer (Ok q) = inner q.0 (many_at kind f d q.1)
      outer (Err e) = refl

      go : (b : Bool) → follow (cond b (follow (d ts) (λ x us. follow (many_at kind f d us) (λ xs. done_at (x ∷ xs)))) (done_at [] ts)) (bar_at kind g c)
          ≡ cond b (follow (d ts) (λ x us. follow (follow (many_at kind f d us) (bar_at kind g c)) (λ xs. done_at (x ∷ xs)))) (bar_at kind g c [] ts)
      go true = outer (d ts)
      go false = refl

  high_turn : (ts : List T) → high ts ≡ cond (starts kind (g ++ f) ts) (follow (either_at kind g s d' ts) (λ x us. follow (high us) (λ xs. done_at (x ∷ xs)))) (done_at [] ts)
  unfolding high
  high_turn ts = many_turn kind (Either S D') (either_at kind g s d') (g ++ f) k reads' clear' ts

  record Follows (ts : List T) (o : Read E T (List A)) : Type 0 where
    okay : (rest : List T) (xs : List A) → o ≡ Ok (xs, rest) → high ts ≡ Ok (xs, rest)
    plain : (e : E) (m : ℕ) → (e ≡ c → ⊥) → o ≡ Err (e, m) → high ts ≡ Err (e, m)
    opens : (m : ℕ) → o ≡ Err (c, m) → Opens (Many (Either S D')) ts m

  high_item : (ts : List T) (o : Read E T A) → starts kind f ts ≡ true → d' ts ≡ o → high ts ≡ follow o (λ x us. follow (high us) (λ xs. done_at (x ∷ xs)))
  high_item ts o begun was =
      let first : starts kind (g ++ f) ts ≡ true = begins_right kind g f ts begun in
      let not : starts kind g ts ≡ false = starts_apart kind f g ts apart_sets begun in
      high_turn ts ∙ rw (first, not, was) refl

  fault_parts : (a b : E × ℕ) → ◌≡◌ {A = Read E T (List A)} (Err a) (Err b) → a ≡ b
  fault_parts a b h = cc

  after : (ts : List T) (q : A × List T) → starts kind f ts ≡ true → d ts ≡ Ok q → (o : Read E T (List A)) → Follows q.1 o → Follows ts (follow o (λ xs. done_at (q.0 ∷ xs)))
  after ts q begun was (Ok p) i =
      let high_is : high ts ≡ Ok (q.0 ∷ p.0, p.1) = high_item ts (Ok q) begun (item.okay ts q.1 q.0 was) ∙ ap (λ (o : Read E T (List A)). follow o (λ xs. done_at (q.0 ∷ xs))) (i.okay p.1 p.0 refl) in
      record { okay = λ rest xs h. high_is ∙ h; plain = λ e m other h. absurd cc; opens = λ m h. absurd cc }
  after ts q begun was (Err g) i =
      record {
        okay = λ rest xs h. absurd cc;
        plain = λ e m other h. high_item ts (Ok q) begun (item.okay ts q.1 q.0 was) ∙ ap (λ (o : Read E T (List A)). follow o (λ xs. done_at (q.0 ∷ xs))) (i.plain e m other (ap (λ (u : E × ℕ). Err u) (let same : g ≡ (e, m) = cc in same)));
        opens = λ m h.
            let t = reads.takes ts q.1 q.0 was in
            let o = i.opens m (ap (λ (u : E × ℕ). Err u) (let same : g ≡ (c, m) = cc in same)) in
            subst (λ (u : List T). Opens (Many (Either S D')) u m) (sym t.parts) (open_later (Either S D') t.used q.1 q.0 m (inr (item.grows t.used q.0 t.whole)) o);
      }

  begun_case : (ts : List T) (o : Read E T A) → starts kind f ts ≡ true → d ts ≡ o → ((us : List T) → length us < length ts → Follows us (low us)) → Follows ts (follow o (λ x us. follow (low us) (λ xs. done_at (x ∷ xs))))
  begun_case ts (Ok q) begun was ih = after ts q begun was (low q.1) (ih q.1 (shorter kind D d f n reads clear ts q.1 q.0 was))
  begun_case ts (Err g) begun was ih =
      record {
        okay = λ rest xs h. absurd cc;
        plain = λ e m other h. high_item ts (Err (e, m)) begun (item.plain ts e m other (was ∙ ap (λ (u : E × ℕ). Err u) (let same : g ≡ (e, m) = cc in same)));
        opens = λ m h. open_first (Either S D') ts m (opens_in (λ us x p. inr p) (item.opens ts m (was ∙ ap (λ (u : E × ℕ). Err u) (let same : g ≡ (c, m) = cc in same))));
      }

  barred_case : (ts : List T) (m : ℕ) → starts kind g ts ≡ true → length ts ≡ m → Opens (Many (Either S D')) ts m
  barred_case [] m barred left = absurd (let no : false ≡ true = barred in cc)
  barred_case (t ∷ ts) m barred left =
      let v = starting t barred in
      record { front = []; token = t; rest = ts; parts = refl; left = left; viable = record { more = v.more; value = v.value ∷ []; whole = many_first (Either S D') (t ∷ v.more) v.value (inl v.whole) } }

  ended_case : (ts : List T) (b : Bool) → starts kind g ts ≡ b → starts kind f ts ≡ false → Follows ts (cond b (Err (c, length ts)) (done_at [] ts))
  ended_case ts true barred ended =
      record {
        okay = λ rest xs h. absurd cc;
        plain = λ e m other h. absurd (other (ap (λ (u : E × ℕ). u.0) (let same : (e, m) ≡ (c, length ts) = sym (fault_parts (c, length ts) (e, m) h) in same)));
        opens = λ m h. barred_case ts m barred (ap (λ (u : E × ℕ). u.1) (fault_parts (c, length ts) (c, m) h));
      }
  ended_case ts false free ended =
      record {
        okay = λ rest xs h. high_turn ts ∙ rw (begins_none kind g f ts free ended) h;
        plain = λ e m other h. absurd cc;
        opens = λ m h. absurd cc;
      }

  turn : (ts : List T) → ((us : List T) → length us < length ts → Follows us (low us)) → Follows ts (low ts)
  turn ts ih = subst (λ (o : Read E T (List A)). Follows ts o) (sym (low_turn ts)) (go (starts kind f ts) refl)
    where
      go : (b : Bool) → starts kind f ts ≡ b → Follows ts (cond b (follow (d ts) (λ x us. follow (low us) (λ xs. done_at (x ∷ xs)))) (bar_at kind g c [] ts))
      go true begun = begun_case ts (d ts) begun refl ih
      go false ended = ended_case ts (starts kind g ts) refl ended

  follows : (m : ℕ) (ts : List T) → length ts ≤ m → Follows ts (low ts)
  follows zero [] le = turn [] (λ us lt. absurd (omega arith))
  follows zero (t ∷ ts) le = absurd (omega arith)
  follows (suc m) ts le = turn ts (λ us lt. follows m us (omega arith))

  pub deeper_barred : Deepens c (Many D) (Many (Either S D')) (λ ts. follow (many_at kind f d ts) (bar_at kind g c)) (many_at kind (g ++ f) (either_at kind g s d'))
  unfolding low high
  deeper_barred = record {
    grows = many_grows D (Either S D') (λ ts x h. inr (item.grows ts x h));
    okay = λ ts rest xs e. (follows (length ts) ts (omega arith)).okay rest xs e;
    plain = λ ts e m other h. (follows (length ts) ts (omega arith)).plain e m other h;
    opens = λ ts m h. (follows (length ts) ts (omega arith)).opens m h;
  }
