-- Ids that were met, text by text.
use Rattle.std.proofs.Common.{◌≡◌, ◌≢◌, ◌⊎◌, ⊎_elim, inl, inr, ◌↔◌, ◌<◌, ◌≤◌, ◌+◌, ◌==◌, ℕ, zero, suc, Bool, true, false, ◌||◌, cond, IsTrue, List, [], ◌∷◌, ◌++◌, Option, Some, None, Contains, length, take, get_or, slice_get, refl, sym, ap, subst, String, string_bytes, ◌∙◌, arith, true≢false, nat_eq}
use Rattle.std.specs.List.{list_any}
use Rattle.std.specs.Str.{bytes_eq}
use Rattle.std.specs.Option.{is_some, option_flatten}
use Rattle.std.specs.Cmp.Lexicographic.{bytes_decides}
use Rattle.std.proofs.lemmas.Bool.{false≢true, cases_Bool}
use Rattle.std.proofs.lemmas.Bool.Decides.{eqb_tells}
use Rattle.std.proofs.lemmas.Option.{none-some, same_Some, slice_get_within}
use Rattle.std.proofs.lemmas.List.{take_more}
use Rattle.std.proofs.lemmas.List.Folds.{list_any-append}
use Rattle.std.proofs.lemmas.List.Elements.{Contains-append_left, Contains-append_right, Contains-append_cases}
use Rattle.std.specs.HashSet.{contains}
use Rattle.std.specs.declared.alloc.Global.{Global}
use Rattle.wr_rules.specs.NameRules.{reserved_ids}
use Rattle.id_table.specs.Taken.{Owners, owner}
use Rattle.id_rules.specs.Reserved.{OwnsReserved}
use Rattle.place_order.proofs.StandLaws.{get_there}
use Rattle.id_clash.specs.Items.{Ids, Meets, One, new_id, Fresh, AddsTexts, is_had, texts_in}

pub or_cases : (a b : Bool) → (a || b) ≡ true → (a ≡ true) ⊎ (b ≡ true)
or_cases true b h = inl refl
or_cases false b h = inr h

pub left_or : (a b : Bool) → a ≡ true → (a || b) ≡ true
left_or a b h = ap (λ t. t || b) h

pub right_or : (a b : Bool) → b ≡ true → (a || b) ≡ true
right_or true b h = refl
right_or false b h = h

none_or : (a b : Bool) → b ≡ false → (a || b) ≡ a
none_or true b h = refl
none_or false b h = h

or_false : (a : Bool) → (a || false) ≡ a
or_false true = refl
or_false false = refl

or_or : (a b c : Bool) → ((a || b) || c) ≡ (a || (b || c))
or_or true b c = refl
or_or false b c = refl

-- ---- one text, or none

pub meets_none : (items : List ℕ → ℕ → Type 0) (old : ℕ → Bool) → ((t : List ℕ) (i : ℕ) → items t i → ⊥) → Meets items old old false
meets_none items old n = record {
  grown = λ id. (λ h. inl h, λ h. ⊎_elim (λ o. o) (λ x. absurd (n x.0 id x.1)) h);
  tells = (λ h. absurd (false≢true h), λ h. absurd (n h.0 h.1 h.2));
}

pub meets_no : (text : List ℕ) (old : ℕ → Bool) → Meets (One text None) old old false
meets_no text old = meets_none (One text None) old (λ t i h. none-some i h.1)

pub meets_one : (text : List ℕ) (id : ℕ) (old new : ℕ → Bool) (told : Bool) → told ≡ old id → ((q : ℕ) → new q ≡ (old q || (id == q))) → Meets (One text (Some id)) old new told
meets_one text id old new told e u = record {
  grown = λ q. (
    λ h. ⊎_elim (λ o. inl o) (λ x. inr (text, (refl, ap (λ n. Some n) (is_same q x)))) (or_cases (old q) (id == q) (sym (u q) ∙ h)),
    λ h. u q ∙ ⊎_elim (λ o. left_or (old q) (id == q) o) (λ x. right_or (old q) (id == q) (so_same q (same_Some id q x.1.1))) h,
  );
  tells = (
    λ h. (text, id, (refl, refl), inl (sym e ∙ h)),
    λ h. e ∙ ⊎_elim (λ o. ap old (same_Some id h.1 h.2.1) ∙ o) (λ w. absurd (w.2 (w.1.0 ∙ sym h.2.0))) h.3,
  );
}
  where
    is_same : (q : ℕ) → (id == q) ≡ true → id ≡ q
    is_same q h = ⊎_elim (λ t. t.1) (λ t. absurd (true≢false (sym h ∙ t.0))) (eqb_tells id q)

    so_same : (q : ℕ) → id ≡ q → (id == q) ≡ true
    so_same q h = ⊎_elim (λ t. t.0) (λ t. absurd (t.1 h)) (eqb_tells id q)

-- one id more was met
move : (r o b : Bool) → (r || cond b true o) ≡ ((r || o) || b)
move true o b = refl
move false true true = refl
move false true false = refl
move false false true = refl
move false false false = refl

pub had_more : (reserved : Owners) (old new : Ids) (id : ℕ) → ((q : ℕ) → contains nat_eq new q ≡ cond (nat_eq id q) true (contains nat_eq old q)) → (q : ℕ) → is_had reserved new q ≡ (is_had reserved old q || (id == q))
had_more reserved old new id u q =
    ap (λ b. is_some (owner reserved q) || b) (u q) ∙ move (is_some (owner reserved q)) (contains nat_eq old q) (id == q)

-- none was met
pub had_reserved : (reserved : Owners) (met : Ids) → OwnsReserved (owner reserved) → ((id : ℕ) → contains nat_eq met id ≡ false) → (id : ℕ) → IsTrue (is_had reserved met id) ↔ Contains reserved_ids id
had_reserved reserved met o n id = (λ h. to (owner reserved id) refl (sym (ap (λ b. is_some (owner reserved id) || b) (n id) ∙ or_false (is_some (owner reserved id))) ∙ h), λ c. left_or (is_some (owner reserved id)) (contains nat_eq met id) (ap is_some ((o id 4294967295).1 (refl, c))))
  where
    to : (w : Option ℕ) → owner reserved id ≡ w → is_some (owner reserved id) ≡ true → Contains reserved_ids id
    to None e h = absurd (false≢true (sym (ap is_some e) ∙ h))
    to (Some k) e h = ((o id k).0 e).1

-- ---- texts and then others

module _ (A B : List ℕ → ℕ → Type 0) (old mid new : ℕ → Bool) (a b both : Bool) (apart : (t : List ℕ) (i j : ℕ) → A t i → B t j → ⊥) (p : Meets A old mid a) (q : Meets B mid new b) (e : IsTrue both ↔ (IsTrue a ⊎ IsTrue b)) where
  abbrev Why : (List ℕ → ℕ → Type 0) → (ℕ → Bool) → List ℕ → ℕ → Type 0
  Why items had text id = IsTrue (had id) ⊎ ((other : List ℕ) × items other id × (other ≢ text))

  first_told : (text : List ℕ) (id : ℕ) → A text id → Why (λ t i. A t i ⊎ B t i) old text id → IsTrue a ⊎ IsTrue b
  first_told text id x (inl o) = inl (p.tells.1 (text, id, x, inl o))
  first_told text id x (inr (other, inl y, n)) = inl (p.tells.1 (text, id, x, inr (other, y, n)))
  first_told text id x (inr (other, inr y, n)) = inr (q.tells.1 (other, id, y, inl ((p.grown id).1 (inr (text, x)))))

  second_told : (text : List ℕ) (id : ℕ) → B text id → Why (λ t i. A t i ⊎ B t i) old text id → IsTrue a ⊎ IsTrue b
  second_told text id x (inl o) = inr (q.tells.1 (text, id, x, inl ((p.grown id).1 (inl o))))
  second_told text id x (inr (other, inl y, n)) = inr (q.tells.1 (text, id, x, inl ((p.grown id).1 (inr (other, y)))))
  second_told text id x (inr (other, inr y, n)) = inr (q.tells.1 (text, id, x, inr (other, y, n)))

  pub meets_then : Meets (λ t i. A t i ⊎ B t i) old new both
  meets_then = record {
    grown = λ id. (
      λ h. ⊎_elim (λ m. ⊎_elim (λ o. inl o) (λ x. inr (x.0, inl x.1)) ((p.grown id).0 m)) (λ x. inr (x.0, inr x.1)) ((q.grown id).0 h),
      λ h. (q.grown id).1 (⊎_elim (λ o. inl ((p.grown id).1 (inl o))) (λ x. ⊎_elim (λ y. inl ((p.grown id).1 (inr (x.0, y)))) (λ y. inr (x.0, y)) x.1) h),
    );
    tells = (
      λ h. ⊎_elim
          (λ m. (let r = p.tells.0 m in (r.0, r.1, inl r.2, ⊎_elim (λ o. inl o) (λ w. inr (w.0, inl w.1, w.2)) r.3)))
          (λ m.
          let r = q.tells.0 m in (
            r.0,
            r.1,
            inr r.2,
            ⊎_elim
                (λ c. ⊎_elim (λ o. inl o) (λ x. inr (x.0, inl x.1, λ s. apart r.0 r.1 r.1 (subst (λ t. A t r.1) s x.1) r.2)) ((p.grown r.1).0 c))
                (λ w. inr (w.0, inr w.1, w.2)) r.3,
          )) (e.0 h),
      λ h. e.1 (⊎_elim (λ x. first_told h.0 h.1 x h.3) (λ x. second_told h.0 h.1 x h.3) h.2),
    );
  }

pub meets_as : (A B : List ℕ → ℕ → Type 0) (old new : ℕ → Bool) (told : Bool) → ((t : List ℕ) (i : ℕ) → A t i → B t i) → ((t : List ℕ) (i : ℕ) → B t i → A t i) → Meets A old new told → Meets B old new told
meets_as A B old new told to from m = record {
  grown = λ id. (
    λ h. ⊎_elim (λ o. inl o) (λ x. inr (x.0, to x.0 id x.1)) ((m.grown id).0 h),
    λ h. (m.grown id).1 (⊎_elim (λ o. inl o) (λ x. inr (x.0, from x.0 id x.1)) h),
  );
  tells = (
    λ h. (let r = m.tells.0 h in (r.0, r.1, to r.0 r.1 r.2, ⊎_elim (λ o. inl o) (λ w. inr (w.0, to w.0 r.1 w.1, w.2)) r.3)),
    λ h. m.tells.1 (h.0, h.1, from h.0 h.1 h.2, ⊎_elim (λ o. inl o) (λ w. inr (w.0, from w.0 h.1 w.1, w.2)) h.3),
  );
}

-- ---- a list of texts

abbrev pub has_text : List (List ℕ) → List ℕ → Bool
has_text texts text = list_any (λ t. bytes_eq t text) texts

pub there_text : (texts : List (List ℕ)) (text : List ℕ) → has_text texts text ≡ true → Contains texts text
there_text [] text h = absurd (false≢true h)
there_text (t ∷ ts) text h = ⊎_elim
    (λ e. (0, omega arith, (bytes_decides t text).0 e))
    (λ r. (let c = there_text ts text r in let l = c.1 in (suc c.0, omega (arith, l), c.2)))
    (or_cases (bytes_eq t text) (has_text ts text) h)

pub text_there : (texts : List (List ℕ)) (text : List ℕ) → Contains texts text → has_text texts text ≡ true
text_there [] text (k, l, e) = absurd (omega (arith, l))
text_there (t ∷ ts) text (zero, l, e) = left_or (bytes_eq t text) (has_text ts text) ((bytes_decides t text).1 e)
text_there (t ∷ ts) text (suc k, l, e) = right_or (bytes_eq t text) (has_text ts text) (text_there ts text (k, omega (arith, l), e))

-- one text, or nothing of a list
only_one : (text t : List ℕ) → Contains (text ∷ []) t → t ≡ text
only_one text t (zero, l, e) = sym e
only_one text t (suc k, l, e) = absurd (omega (arith, l))

pub adds_none : (met : List ℕ → Bool) → AddsTexts [] met met
adds_none met q = sym (or_false (met q))

abbrev Table : Type 0
Table = List ℕ → Option (Option ℕ)

no_id : (met : List ℕ → Bool) (ids : Table) (t : List ℕ) (i : ℕ) → new_id met ids t ≡ Some i → met t ≡ false
no_id met ids t i h = ⊎_elim (λ m. absurd (none-some i (sym (ap (λ b. cond b None (option_flatten (ids t))) m) ∙ h))) (λ m. m) (cases_Bool (met t))

same_id : (met now : List ℕ → Bool) (ids : Table) (t : List ℕ) → met t ≡ now t → new_id met ids t ≡ new_id now ids t
same_id met now ids t e = ap (λ b. cond b None (option_flatten (ids t))) e

module _ (met now : List ℕ → Bool) (ids : Table) (texts : List (List ℕ)) (m : ℕ) (text : List ℕ) (at : slice_get texts m ≡ Some text) (adds : AddsTexts (take m texts) met now) where
  more : take (m + 1) texts ≡ take m texts ++ text ∷ []
  more = take_more texts m text (slice_get_within texts m text at) ∙ ap (λ t. take m texts ++ t ∷ []) (get_there texts m text text at)

  fresh_to : (t : List ℕ) (i : ℕ) → Fresh met ids (take m texts) t i ⊎ One text (new_id now ids text) t i → Fresh met ids (take (m + 1) texts) t i
  fresh_to t i (inl (c, n)) = (subst (λ xs. Contains xs t) (sym more) (Contains-append_left (take m texts) (text ∷ []) t c), n)
  fresh_to t i (inr (e, n)) = (
    subst (λ xs. Contains xs t) (sym more) (Contains-append_right (take m texts) (text ∷ []) t (0, omega arith, sym e)),
    subst (λ x. new_id met ids x ≡ Some i) (sym e) (same_id met now ids text (was_new ∙ sym (no_id now ids text i n)) ∙ n),
  )
    where
      was_new : met text ≡ false
      was_new = ⊎_elim (λ h. absurd (true≢false (sym (adds text ∙ left_or (met text) (has_text (take m texts) text) h) ∙ no_id now ids text i n))) (λ h. h) (cases_Bool (met text))

  fresh_from : (t : List ℕ) (i : ℕ) → Fresh met ids (take (m + 1) texts) t i → Fresh met ids (take m texts) t i ⊎ One text (new_id now ids text) t i
  fresh_from t i (c, n) = ⊎_elim
      (λ h. inl (h, n))
      (λ h. ⊎_elim
      (λ b. inl (there_text (take m texts) t b, n))
      (λ b. (let e = only_one text t h in inr (e, subst (λ x. new_id now ids x ≡ Some i) e (sym (same_id met now ids t (sym (adds t ∙ none_or (met t) (has_text (take m texts) t) b))) ∙ n))))
      (cases_Bool (has_text (take m texts) t)))
      (Contains-append_cases (take m texts) (text ∷ []) t (subst (λ xs. Contains xs t) more c))

  fresh_apart : (t : List ℕ) (i j : ℕ) → Fresh met ids (take m texts) t i → One text (new_id now ids text) t j → ⊥
  fresh_apart t i j (c, n) (e, w) =
      true≢false (sym (adds text ∙ right_or (met text) (has_text (take m texts) text) (text_there (take m texts) text (subst (λ x. Contains (take m texts) x) e c))) ∙ no_id now ids text j w)

  -- one text more
  pub fresh_more : (old mid new : ℕ → Bool) (a b both : Bool) → Meets (Fresh met ids (take m texts)) old mid a → Meets (One text (new_id now ids text)) mid new b → IsTrue both ↔ (IsTrue a ⊎ IsTrue b)
      → Meets (Fresh met ids (take (m + 1) texts)) old new both
  fresh_more old mid new a b both p q e =
      meets_as _ (Fresh met ids (take (m + 1) texts)) old new both fresh_to fresh_from (meets_then (Fresh met ids (take m texts)) (One text (new_id now ids text)) old mid new a b both fresh_apart p q e)

  pub adds_more : (next : List ℕ → Bool) → AddsTexts (text ∷ []) now next → AddsTexts (take (m + 1) texts) met next
  adds_more next a q =
      a q ∙ ap (λ b. b || (bytes_eq text q || false)) (adds q) ∙ or_or (met q) (has_text (take m texts) q) (bytes_eq text q || false)
      ∙ ap (λ b. met q || b) (sym (ap (λ xs. has_text xs q) more ∙ list_any-append (λ t. bytes_eq t q) (take m texts) (text ∷ [])))

nothing_fresh : (met : List ℕ → Bool) (ids : Table) (texts : List (List ℕ)) (t : List ℕ) (i : ℕ) → Fresh met ids (take 0 texts) t i → ⊥
nothing_fresh met ids [] t i ((k, l, e), n) = omega (arith, l)
nothing_fresh met ids (x ∷ xs) t i ((k, l, e), n) = omega (arith, l)

pub fresh_none : (met : List ℕ → Bool) (ids : Table) (texts : List (List ℕ)) (old : ℕ → Bool) → Meets (Fresh met ids (take 0 texts)) old old false
fresh_none met ids texts old = meets_none (Fresh met ids (take 0 texts)) old (nothing_fresh met ids texts)

pub adds_no : (met : List ℕ → Bool) (texts : List (List ℕ)) → AddsTexts (take 0 texts) met met
adds_no met [] = adds_none met
adds_no met (x ∷ xs) = adds_none met

-- ---- texts of the program

pub text_at : (texts : List (String Global)) (i : ℕ) (x : String Global) → i < length texts → x ≡ get_or texts i x → slice_get (texts_in texts) i ≡ Some (string_bytes x)
text_at [] i x l e = absurd (omega (arith, l))
text_at (t ∷ ts) zero x l e = ap (λ (y : String Global). Some (string_bytes y)) (sym e)
text_at (t ∷ ts) (suc i) x l e = text_at ts i x (omega (arith, l)) e

pub whole_texts : (texts : List (String Global)) (i : ℕ) → length texts ≤ i → take i (texts_in texts) ≡ texts_in texts
whole_texts [] zero l = refl
whole_texts [] (suc i) l = refl
whole_texts (t ∷ ts) zero l = absurd (omega (arith, l))
whole_texts (t ∷ ts) (suc i) l = ap (λ r. string_bytes t ∷ r) (whole_texts ts i (omega (arith, l)))

pub adds_one : (text : List ℕ) (old new : List ℕ → Bool) → ((q : List ℕ) → new q ≡ (old q || bytes_eq text q)) → AddsTexts (text ∷ []) old new
adds_one text old new u q = u q ∙ ap (λ b. old q || b) (sym (or_false (bytes_eq text q)))
