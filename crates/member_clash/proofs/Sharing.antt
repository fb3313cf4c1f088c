-- Numbers that share a number stand for texts that share a name.
use Rattle.std.proofs.Common.{◌≡◌, ◌<◌, ◌+◌, ◌↔◌, slice_get, ℕ, zero, suc, Bool, true, false, IsTrue, List, [], ◌∷◌, ◌++◌, Option, Some, inl, inr, map, length, take, get_or, refl, sym, ap, subst, ◌∙◌, arith}
use Rattle.std.specs.Str.{bytes_eq}
use Rattle.std.specs.Cmp.Lexicographic.{bytes_decides}
use Rattle.std.proofs.lemmas.Option.{same_Some}
use Rattle.std.proofs.lemmas.List.{take_more}
use Rattle.chains.specs.Graphs.{In, steps_of}
use Rattle.stamps.specs.Shared.{Shared}
use Rattle.wr_base.specs.declared.declaration.Declaration.{Declaration}
use Rattle.wr_base.specs.Lower.{lower}
use Rattle.wr_rules.specs.MemberRules.{has_name, shares}
use Rattle.wr_rules.specs.ListRules.{names_at, clash_of, Clash}
use Rattle.wr_rules.proofs.ClashLaws.{Holds, one_passes, any_passes, clash_told, tell_clash}
use Rattle.numbered.specs.Numbers.{IsNumbering, Kept, NumbersBy}
use Rattle.numbered.specs.Tables.{Known, OneOf}
use Rattle.numbered.proofs.Puts.{kept_numbers}
use Rattle.numbered.proofs.Texts.{number_of_text as number_of_one_text, text_of_number as one_text_of_number}
use Rattle.member_clash.specs.Tables.{Knows, texts_listed}

-- what stands among texts stands there by the other relation
one_held : (ts : List (List ℕ)) (t : List ℕ) → Holds ts t → OneOf ts t
one_held [] t h = h
one_held (s ∷ ss) t (inl q) = inl q
one_held (s ∷ ss) t (inr h) = inr (one_held ss t h)

held_one : (ts : List (List ℕ)) (t : List ℕ) → OneOf ts t → Holds ts t
held_one [] t h = h
held_one (s ∷ ss) t (inl q) = inl q
held_one (s ∷ ss) t (inr h) = inr (held_one ss t h)

number_of_text : (key : List ℕ → List ℕ) (f : List ℕ → Option ℕ) (texts : List (List ℕ)) (list : List ℕ) (t : List ℕ) → NumbersBy key f texts list → Holds texts t → (x : ℕ) × In x list × (f (key t) ≡ Some x)
number_of_text key f texts list t e h = number_of_one_text key f texts list t e (one_held texts t h)

text_of_number : (key : List ℕ → List ℕ) (f : List ℕ → Option ℕ) (texts : List (List ℕ)) (list : List ℕ) (x : ℕ) → NumbersBy key f texts list → In x list → (t : List ℕ) × Holds texts t × (f (key t) ≡ Some x)
text_of_number key f texts list x e h = let r = one_text_of_number key f texts list x e h in (r.0, held_one texts r.0 r.1, r.2)

module _ (N : List ℕ → Option ℕ) (count : ℕ) (numbering : IsNumbering N count) (as_ bs : List (List ℕ)) (xs ys : List ℕ) (ea : NumbersBy lower N as_ xs) (eb : NumbersBy lower N bs ys) where
  pub shares_told : shares as_ bs ≡ true → (x : ℕ) × In x xs × In x ys
  shares_told e =
      let a = one_passes (has_name bs) as_ e in
      let b = one_passes (λ n. bytes_eq (lower n) (lower a.0)) bs a.2 in
      let x = number_of_text lower N as_ xs a.0 ea a.1 in
      let y = number_of_text lower N bs ys b.0 eb b.1 in
      let same : lower b.0 ≡ lower a.0 = (bytes_decides (lower b.0) (lower a.0)).0 b.2 in
      (x.0, x.1, subst (λ z. In z ys) (same_Some y.0 x.0 (sym y.2 ∙ (ap N same ∙ x.2))) y.1)

  pub tell_shares : (x : ℕ) → In x xs → In x ys → shares as_ bs ≡ true
  tell_shares x hx hy =
      let a = text_of_number lower N as_ xs x ea hx in
      let b = text_of_number lower N bs ys x eb hy in
      any_passes (has_name bs) as_ a.0 a.1 (any_passes (λ n. bytes_eq (lower n) (lower a.0)) bs b.0 b.1 ((bytes_decides (lower b.0) (lower a.0)).1 (numbering.apart (lower b.0) (lower a.0) x b.2 a.2)))

module _ (types : List Declaration) (T : List ℕ → Option ℕ) (n : ℕ) (N : List ℕ → Option ℕ) (m : ℕ) (owned : List (List ℕ)) (k : Known (names_at types) lower T n N m owned) (texts : List (List ℕ)) (set : List ℕ) (e : NumbersBy (λ t. t) T texts set) where
  pub set_within : (a : ℕ) → In a set → a < length owned
  set_within a h = let t = text_of_number (λ t. t) T texts set a e h in let w = k.of_texts.within t.0 a t.2 in let s = k.size in omega (arith, w, s)

  to_clash : Shared owned set → Clash types (Holds texts)
  to_clash s =
      let a = text_of_number (λ t. t) T texts set s.a e s.first in
      let b = text_of_number (λ t. t) T texts set s.b e s.second in
      record {
        s = a.0;
        t = b.0;
        first = a.1;
        second = b.1;
        apart = λ q. s.apart (same_Some s.a s.b (sym a.2 ∙ (ap T q ∙ b.2)));
        shared = tell_shares N m k.of_names (names_at types a.0) (names_at types b.0) (steps_of owned s.a) (steps_of owned s.b) (k.owns a.0 s.a a.2) (k.owns b.0 s.b b.2) s.thing s.of_first s.of_second;
      }

  from_clash : Clash types (Holds texts) → Shared owned set
  from_clash c =
      let a = number_of_text (λ t. t) T texts set c.s e c.first in
      let b = number_of_text (λ t. t) T texts set c.t e c.second in
      let x = shares_told N m k.of_names (names_at types c.s) (names_at types c.t) (steps_of owned a.0) (steps_of owned b.0) (k.owns c.s a.0 a.2) (k.owns c.t b.0 b.2) c.shared in
      record {
        a = a.0;
        b = b.0;
        first = a.1;
        second = b.1;
        apart = λ q. c.apart (k.of_texts.apart c.s c.t b.0 (a.2 ∙ ap (λ z. Some z) q) b.2);
        thing = x.0;
        of_first = x.1;
        of_second = x.2;
      }

  same_truth : (a b : Bool) → (a ≡ true → b ≡ true) → (b ≡ true → a ≡ true) → a ≡ b
  same_truth true b f g = sym (f refl)
  same_truth false true f g = g refl
  same_truth false false f g = refl

  -- what the stamps tell is what the texts say
  pub clash_is : (b : Bool) → IsTrue b ↔ Shared owned set → b ≡ clash_of types texts
  clash_is b h = same_truth b (clash_of types texts) (λ t. tell_clash types texts (to_clash (h.0 t))) (λ t. h.1 (from_clash (clash_told types texts t)))

pub knows_kept : (T T2 : List ℕ → Option ℕ) (ds : List Declaration) (ss : List (List ℕ)) → Kept T T2 → Knows T ds ss → Knows T2 ds ss
knows_kept T T2 [] [] k h = tt
knows_kept T T2 [] (s ∷ ss) k h = h
knows_kept T T2 (d ∷ ds) [] k h = h
knows_kept T T2 (d ∷ ds) (s ∷ ss) k h = (kept_numbers (λ t. t) T T2 (texts_listed d) s k h.0, knows_kept T T2 ds ss k h.1)

pub knows_more : (T : List ℕ → Option ℕ) (ds : List Declaration) (ss : List (List ℕ)) (d : Declaration) (s : List ℕ) → Knows T ds ss → NumbersBy (λ t. t) T (texts_listed d) s → Knows T (ds ++ d ∷ []) (ss ++ s ∷ [])
knows_more T [] [] d s h e = (e, tt)
knows_more T [] (x ∷ ss) d s h e = absurd h
knows_more T (y ∷ ds) [] d s h e = absurd h
knows_more T (y ∷ ds) (x ∷ ss) d s h e = (h.0, knows_more T ds ss d s h.1 e)

slice_or : (ds : List Declaration) (i : ℕ) (d : Declaration) → slice_get ds i ≡ Some d → get_or ds i d ≡ d
slice_or [] i d e = refl
slice_or (x ∷ ds) zero d e = same_Some x d e
slice_or (x ∷ ds) (suc i) d e = slice_or ds i d e

pub knows_turn : (T : List ℕ → Option ℕ) (ds : List Declaration) (i : ℕ) (d : Declaration) (ss : List (List ℕ)) (s : List ℕ) → i < length ds → slice_get ds i ≡ Some d → Knows T (take i ds) ss → NumbersBy (λ t. t) T (texts_listed d) s
    → Knows T (take (i + 1) ds) (ss ++ s ∷ [])
knows_turn T ds i d ss s l e h n = subst (λ xs. Knows T xs (ss ++ s ∷ [])) (sym (take_more ds i d l ∙ ap (λ x. take i ds ++ x ∷ []) (slice_or ds i d e))) (knows_more T (take i ds) ss d s h n)

pub knows_at : (T : List ℕ → Option ℕ) (ds : List Declaration) (ss : List (List ℕ)) (i : ℕ) → i < length ss → Knows T ds ss → (d : Declaration) × (i < length ds) × NumbersBy (λ t. t) T (texts_listed (get_or ds i d)) (steps_of ss i)
knows_at T [] [] i l h = absurd (omega (arith, l))
knows_at T (d ∷ ds) [] i l h = absurd h
knows_at T [] (s ∷ ss) i l h = absurd h
knows_at T (d ∷ ds) (s ∷ ss) zero l h = (d, omega arith, h.0)
knows_at T (d ∷ ds) (s ∷ ss) (suc i) l h = let r = knows_at T ds ss i (omega (arith, l)) h.1 in let w = r.1 in (r.0, omega (arith, w), r.2)

pub knows_length : (T : List ℕ → Option ℕ) (ds : List Declaration) (ss : List (List ℕ)) → Knows T ds ss → length ss ≡ length ds
knows_length T [] [] h = refl
knows_length T (d ∷ ds) [] h = absurd h
knows_length T [] (s ∷ ss) h = absurd h
knows_length T (d ∷ ds) (s ∷ ss) h = let r = knows_length T ds ss h.1 in omega (arith, r)

map_one : (F : Declaration → Bool) (xs : List Declaration) (y : Declaration) → map F (xs ++ y ∷ []) ≡ map F xs ++ F y ∷ []
map_one F [] y = refl
map_one F (x ∷ xs) y = ap (λ l. F x ∷ l) (map_one F xs y)

-- one answer more
pub told_turn : (F : Declaration → Bool) (T : List ℕ → Option ℕ) (ds : List Declaration) (ss : List (List ℕ)) (i : ℕ) (on new : List Bool) (b : Bool) → i < length ss → Knows T ds ss → on ≡ map F (take i ds) → new ≡ on ++ b ∷ []
    → ((d : Declaration) → NumbersBy (λ t. t) T (texts_listed d) (steps_of ss i) → b ≡ F d) → new ≡ map F (take (i + 1) ds)
told_turn F T ds ss i on new b l h o is f =
    let r = knows_at T ds ss i l h in
    is ∙ ap (λ l2. l2 ++ b ∷ []) o ∙ ap (λ x. map F (take i ds) ++ x ∷ []) (f (get_or ds i r.0) r.2) ∙ sym (ap (map F) (take_more ds i r.0 r.1) ∙ map_one F (take i ds) (get_or ds i r.0))

module _ (types : List Declaration) (T : List ℕ → Option ℕ) (n : ℕ) (N : List ℕ → Option ℕ) (m : ℕ) (owned : List (List ℕ)) (k : Known (names_at types) lower T n N m owned) where
  pub things_within : (a x : ℕ) → In x (steps_of owned a) → x < m
  things_within a x h = let t = k.named a x h in k.of_names.within t.0 x t.1

  pub set_within_at : (ds : List Declaration) (ss : List (List ℕ)) (i : ℕ) → i < length ss → Knows T ds ss → (a : ℕ) → In a (steps_of ss i) → a < length owned
  set_within_at ds ss i l h a ia = let r = knows_at T ds ss i l h in set_within types T n N m owned k (texts_listed (get_or ds i r.0)) (steps_of ss i) r.2 a ia
