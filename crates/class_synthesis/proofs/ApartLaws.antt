-- Where nothing clashes, all names of a set are apart.
use Rattle.std.proofs.Common.{◌≡◌, ℕ, suc, zero, ◌+◌, ◌<◌, Bool, true, false, List, [], ◌∷◌, ◌++◌, map, Some, refl, sym, ap, subst, ◌∙◌, arith, inl, inr}
use Rattle.std.specs.Prelude.{slice_get, codes, unwrap_or}
use Rattle.std.specs.List.{IsDistinct, AllByRecursion, flat_map}
use Rattle.std.specs.Str.{bytes_eq}
use Rattle.std.proofs.lemmas.Bool.{false≢true}
use Rattle.std.proofs.lemmas.List.{append_cancel_left}
use Rattle.std.proofs.lemmas.Map.Keys.{any_passes_from_place}
use Rattle.std.proofs.lemmas.Option.{none-some, slice_get-map, slice_get_within}
use Rattle.std.proofs.lemmas.Slice.Eq.{bytes_eq-Decides}
use Rattle.std.specs.Option.{option_map}
use Rattle.ranked.specs.First.{Below, At, Only, Clear}
use Rattle.wr_base.specs.Lower.{lower}
use Rattle.wr_base.specs.Parts.{before_last, behind_last}
use Rattle.wr_base.proofs.PartLaws.{either}
use Rattle.wr_rules.specs.NameRules.{same_lower}
use Rattle.wr_rules.specs.Sites.{site_name}
use Rattle.placed_items.specs.declared.placed.Written.{Written}
use Rattle.placed_items.specs.declared.placed.Written.TheVariants as written
use Rattle.placed_items.specs.declared.placed.PlacedItem.{PlacedItem}
use Rattle.placed_items.specs.Items.{written_name, written_names, NamesApart}
use Rattle.made_interfaces.specs.Made.{made_name, where_, makes_default, makes_statics, makes_factory, made_by, raw}
use Rattle.made_interfaces.proofs.NameLaws.{item_names, raw_names}
use Rattle.class_synthesis.specs.Clashes.{IsClash, IsTaken, clash_entry, has_lower}

-- texts that can't be equal
apart_from : (a b : List ℕ) → (a ≡ b → ⊥) → bytes_eq a b ≡ false
apart_from a b h = elim (either (bytes_eq a b)) [
  | inl e ↦ absurd (h ((bytes_eq-Decides a b).0 e))
  | inr e ↦ e
]

same_text : (a : List ℕ) → bytes_eq a a ≡ true
same_text a = (bytes_eq-Decides a a).1 refl

some_is : (a b : List ℕ) → Some a ≡ Some b → a ≡ b
some_is a b e = ap (λ o. unwrap_or o a) e

-- no element of one list is an element of another
abbrev pub Differ : List (List ℕ) → List (List ℕ) → Type 0
Differ xs ys = (a b : ℕ) (x y : List ℕ) → slice_get xs a ≡ Some x → slice_get ys b ≡ Some y → bytes_eq x y ≡ false

differ_right : (xs ys zs : List (List ℕ)) → Differ xs ys → Differ xs zs → Differ xs (ys ++ zs)
differ_right xs [] zs p q a b x y s t = q a b x y s t
differ_right xs (z ∷ ys) zs p q a zero x y s t = p a zero x y s t
differ_right xs (z ∷ ys) zs p q a (suc b) x y s t = differ_right xs ys zs (λ a b x y s t. p a (suc b) x y s t) q a b x y s t

differ_flat : (f : PlacedItem → List (List ℕ)) (xs : List (List ℕ)) (items : List PlacedItem) → ((j : ℕ) (z : PlacedItem) → slice_get items j ≡ Some z → Differ xs (f z)) → Differ xs (flat_map f items)
differ_flat f xs [] h = λ a b x y s t. absurd (none-some y t)
differ_flat f xs (i ∷ is) h = differ_right xs (f i) (flat_map f is) (h 0 i refl) (differ_flat f xs is (λ j z e. h (suc j) z e))

all_apart : (x : List ℕ) (ys : List (List ℕ)) → ((b : ℕ) (y : List ℕ) → slice_get ys b ≡ Some y → bytes_eq x y ≡ false) → AllByRecursion (λ y. bytes_eq x y ≡ false) ys
all_apart x [] h = tt
all_apart x (y ∷ ys) h = (h 0 y refl, all_apart x ys (λ b z e. h (suc b) z e))

all_append : (P : List ℕ → Type 0) (xs ys : List (List ℕ)) → AllByRecursion P xs → AllByRecursion P ys → AllByRecursion P (xs ++ ys)
all_append P [] ys p q = q
all_append P (x ∷ xs) ys p q = (p.0, all_append P xs ys p.1 q)

distinct_append : (xs ys : List (List ℕ)) → IsDistinct bytes_eq xs → IsDistinct bytes_eq ys → Differ xs ys → IsDistinct bytes_eq (xs ++ ys)
unfolding IsDistinct
distinct_append [] ys p q h = q
distinct_append (x ∷ xs) ys p q h =
    (all_append (λ y. bytes_eq x y ≡ false) xs ys p.0 (all_apart x ys (λ b y t. h 0 b x y refl t)), distinct_append xs ys p.1 q (λ a b x y s t. h (suc a) b x y s t))

distinct_cons : (x : List ℕ) (xs : List (List ℕ)) → ((b : ℕ) (y : List ℕ) → slice_get xs b ≡ Some y → bytes_eq x y ≡ false) → IsDistinct bytes_eq xs → IsDistinct bytes_eq (x ∷ xs)
unfolding IsDistinct
distinct_cons x xs h d = (all_apart x xs h, d)

-- the three names of one class

word_apart : (class one two : List ℕ) → bytes_eq one two ≡ false → bytes_eq (made_name class one) (made_name class two) ≡ false
word_apart class one two h =
    apart_from (made_name class one) (made_name class two)
    (λ e. false≢true
    (sym h ∙ (bytes_eq-Decides one two).1 (append_cancel_left (behind_last 46 class) one two (append_cancel_left (46 ∷ 73 ∷ []) _ _ (append_cancel_left (before_last 46 class) _ _ e)))))

three_apart : (a b d : Bool) (x y z : List ℕ) → bytes_eq x y ≡ false → bytes_eq x z ≡ false → bytes_eq y z ≡ false → IsDistinct bytes_eq (where_ a x ++ where_ b y ++ where_ d z)
unfolding IsDistinct
three_apart true true true x y z p q r = ((p, (q, tt)), ((r, tt), (tt, tt)))
three_apart true true false x y z p q r = ((p, tt), (tt, tt))
three_apart true false true x y z p q r = ((q, tt), (tt, tt))
three_apart true false false x y z p q r = (tt, tt)
three_apart false true true x y z p q r = ((r, tt), (tt, tt))
three_apart false true false x y z p q r = (tt, tt)
three_apart false false true x y z p q r = (tt, tt)
three_apart false false false x y z p q r = tt

made_apart : (w : Written) → IsDistinct bytes_eq (made_by w)
unfolding IsDistinct
made_apart (written.Done d) = tt
made_apart (written.Class c) =
    three_apart (makes_default c) (makes_statics c) (makes_factory c) (made_name c.name []) (made_name c.name (codes "Statics")) (made_name c.name (codes "Factory"))
    (word_apart c.name [] (codes "Statics") refl) (word_apart c.name [] (codes "Factory") refl) (word_apart c.name (codes "Statics") (codes "Factory") refl)

-- a name of a list is in it but for case
lower_at : (names : List (List ℕ)) (k : ℕ) (n name : List ℕ) → slice_get names k ≡ Some n → n ≡ name → has_lower names name ≡ true
lower_at names k n name at same = any_passes_from_place (λ m. same_lower m name) names k n at (ap (λ m. same_lower m name) same ∙ same_text (lower name))

module _ (items : List PlacedItem) (apart : NamesApart items) (clear : Clear (IsClash items)) where
  -- what an item makes isn't taken
  untaken : (k m : ℕ) (x : PlacedItem) (name : List ℕ) → slice_get items k ≡ Some x → slice_get (made_by x.item) m ≡ Some name → IsTaken items k name → ⊥
  unfolding Clear Below At Only
  untaken k m x name at made taken =
      clear (clash_entry x.places.at name) (k, slice_get_within items k x at, (x, at, (m, slice_get_within (made_by x.item) m name made, (name, made, (taken, refl)))))

  written_at : (k : ℕ) (x : PlacedItem) → slice_get items k ≡ Some x → slice_get (written_names items) k ≡ Some (written_name x.item)
  written_at k x at = slice_get-map (λ (i : PlacedItem). written_name i.item) items k ∙ ap (option_map (λ (i : PlacedItem). written_name i.item)) at

  -- a written name is none that is made
  written_made : (j k m : ℕ) (x z : PlacedItem) (name : List ℕ) → slice_get items j ≡ Some x → slice_get items k ≡ Some z → slice_get (made_by z.item) m ≡ Some name → written_name x.item ≡ name → ⊥
  written_made j k m x z name at_x at_z made same = untaken k m z name at_z made (inl (lower_at (written_names items) j (written_name x.item) name (written_at j x at_x) same))

  -- items at two places have no name in common
  items_differ : (j k : ℕ) (x z : PlacedItem) → j < k → slice_get items j ≡ Some x → slice_get items k ≡ Some z → Differ (item_names x) (item_names z)
  items_differ j k x z l at_x at_z zero zero p q s t =
      apart_from p q (λ e. absurd (omega (arith, l, apart j k p (written_at j x at_x ∙ s) (written_at k z at_z ∙ t ∙ ap Some (sym e)))))
  items_differ j k x z l at_x at_z zero (suc b) p q s t =
      apart_from p q (λ e. written_made j k b x z q at_x at_z t (some_is (written_name x.item) p s ∙ e))
  items_differ j k x z l at_x at_z (suc a) zero p q s t =
      apart_from p q (λ e. written_made k j a z x p at_z at_x s (some_is (written_name z.item) q t ∙ sym e))
  items_differ j k x z l at_x at_z (suc a) (suc b) p q s t =
      apart_from p q
      (λ e. untaken k b z q at_z t (inr (inr (record { j = j; earlier = x; at = at_x; before = l; same = lower_at (made_by x.item) a p q s e }))))

  -- nor has one item a name twice
  item_apart : (k : ℕ) (x : PlacedItem) → slice_get items k ≡ Some x → IsDistinct bytes_eq (item_names x)
  item_apart k x at = distinct_cons (written_name x.item) (made_by x.item) (λ b y t. apart_from (written_name x.item) y (written_made k k b x x y at at t)) (made_apart x.item)

  rest_apart : (rest : List PlacedItem) (k : ℕ) → ((j : ℕ) (z : PlacedItem) → slice_get rest j ≡ Some z → slice_get items (k + j) ≡ Some z) → IsDistinct bytes_eq (flat_map item_names rest)
  unfolding IsDistinct
  rest_apart [] k h = tt
  rest_apart (x ∷ rest) k h =
      let here : slice_get items k ≡ Some x = subst (λ n. slice_get items n ≡ Some x) (omega arith) (h 0 x refl) in
      let behind : (j : ℕ) (z : PlacedItem) → slice_get rest j ≡ Some z → slice_get items (k + 1 + j) ≡ Some z = λ j z e. subst (λ n. slice_get items n ≡ Some z) (omega arith) (h (suc j) z e) in
      distinct_append (item_names x) (flat_map item_names rest) (item_apart k x here) (rest_apart rest (k + 1) behind)
      (differ_flat item_names (item_names x) rest (λ j z e. items_differ k (k + 1 + j) x z (omega arith) here (behind j z e)))

  pub names_apart : IsDistinct bytes_eq (map site_name (raw items))
  names_apart = subst (IsDistinct bytes_eq) (sym (raw_names items)) (rest_apart items 0 (λ j z e. subst (λ n. slice_get items n ≡ Some z) (omega arith) e))
