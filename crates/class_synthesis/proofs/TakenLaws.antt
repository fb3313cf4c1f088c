-- Sets of texts in lower case, and the names that are taken.
use Rattle.std.proofs.Common.{◌≡◌, ◌⊎◌, ℕ, suc, zero, ◌+◌, ◌<◌, Bool, true, false, ◌||◌, cond, List, [], ◌∷◌, ◌++◌, length, map, take, get_or, Option, Some, None, IsTrue, Result, Ok, Err, OnOk, IfOk, refl, sym, ap, subst, ◌∙◌, arith, inl, inr}
use Rattle.std.specs.Prelude.{slice_get, unwrap_or, String}
use Rattle.std.specs.List.{flat_map, list_any}
use Rattle.std.specs.Str.{bytes_eq}
use Rattle.std.specs.HashSet.{HashSet, contains_text}
use Rattle.std.specs.declared.hash.FoldHasher.{FoldHasher}
use Rattle.std.specs.declared.hash.BuildHasherDefault.{BuildHasherDefault}
use Rattle.std.specs.declared.alloc.Global.{Global}
use Rattle.std.proofs.lemmas.Bool.{false≢true}
use Rattle.std.proofs.lemmas.List.{take_more, map-append, append-nil, append_assoc}
use Rattle.std.proofs.lemmas.List.Folds.{list_any-append}
use Rattle.std.proofs.lemmas.Option.{slice_get_read}
use Rattle.std.proofs.lemmas.Slice.Eq.{bytes_eq-Decides}
use Rattle.ranked.specs.Entries.{Entry, earlier_of}
use Rattle.ranked.specs.First.{IsFirst, Below, At, Among, Only}
use Rattle.ranked.specs.declared.place.Place.{Place}
use Rattle.ranked.proofs.FirstLaws.{same, one_more_as, one_more_element, at_element, only_if}
use Rattle.wr_base.specs.Lower.{lower}
use Rattle.wr_base.proofs.PartLaws.{either}
use Rattle.wr_rules.specs.NameRules.{same_lower}
use Rattle.found_table.specs.Found.{FoundRow}
use Rattle.found_table.specs.Table.{table, is_found, name_of as found_name}
use Rattle.placed_items.specs.declared.placed.PlacedItem.{PlacedItem}
use Rattle.placed_items.specs.Items.{written_name, written_names}
use Rattle.made_interfaces.specs.Made.{made_by}
use Rattle.class_synthesis.specs.Clashes.{ClashesAt, IsTaken, MadeBefore, clash_entry, has_lower}
use Rattle.class_synthesis.specs.Taken.{has_text, Holds, Adds, is_taken, names_before}

abbrev Texts : Type 0
Texts = HashSet (String Global) (BuildHasherDefault FoldHasher)

one_or : (b x : Bool) → cond b true x ≡ ((b || false) || x)
one_or true x = refl
one_or false x = refl

swapped : (a b c : Bool) → (a || (b || c)) ≡ ((b || a) || c)
swapped true true c = refl
swapped true false c = refl
swapped false true c = refl
swapped false false c = refl

turned : (a b : Bool) → (a || b) ≡ (b || a)
turned true true = refl
turned true false = refl
turned false true = refl
turned false false = refl

with_more : (xs ys : List (List ℕ)) (q : List ℕ) → has_text (xs ++ ys) q ≡ (has_text xs q || has_text ys q)
with_more xs ys q = list_any-append (λ n. bytes_eq (lower n) q) xs ys

-- one name
pub adds_one : (t name : List ℕ) (old new : Texts) → t ≡ lower name → ((q : List ℕ) → contains_text new q ≡ cond (bytes_eq t q) true (contains_text old q)) → Adds (name ∷ []) old new
adds_one t name old new e h q = h q ∙ ap (λ u. cond (bytes_eq u q) true (contains_text old q)) e ∙ one_or (bytes_eq (lower name) q) (contains_text old q)

-- one name more
pub adds_more : (xs : List (List ℕ)) (i : ℕ) (x : List ℕ) (old mid new : Texts) → i < length xs → x ≡ get_or xs i x → Adds (take i xs) old mid → Adds (x ∷ []) mid new → Adds (take (i + 1) xs) old new
adds_more xs i x old mid new l is before one q =
    one q
    ∙ ap (λ b. has_text (x ∷ []) q || b) (before q)
    ∙ swapped (has_text (x ∷ []) q) (has_text (take i xs) q) (contains_text old q)
    ∙ ap (λ b. b || contains_text old q) (sym (with_more (take i xs) (x ∷ []) q) ∙ ap (λ z. has_text (take i xs ++ z ∷ []) q) is ∙ sym (ap (λ t. has_text t q) (take_more xs i x l)))

pub holds_more : (names more : List (List ℕ)) (old new : Texts) → Holds old names → Adds more old new → Holds new (names ++ more)
holds_more names more old new before adds q =
    adds q ∙ ap (λ b. has_text more q || b) (before q) ∙ turned (has_text more q) (has_text names q) ∙ sym (with_more names more q)

-- one declared name more
pub holds_turn : (items : List PlacedItem) (i : ℕ) (x : PlacedItem) (name : List ℕ) (old new : Texts) → i < length items → x ≡ get_or items i x → name ≡ written_name x.item
    → Holds old (written_names (take i items)) → Adds (name ∷ []) old new → Holds new (written_names (take (i + 1) items))
holds_turn items i x name old new l is called before adds =
    subst (Holds new)
    (ap (λ n. written_names (take i items) ++ n ∷ []) called
    ∙ sym (map-append (λ (p : PlacedItem). written_name p.item) (take i items) (x ∷ []))
    ∙ ap (λ z. written_names (take i items ++ z ∷ [])) is
    ∙ sym (ap written_names (take_more items i x l)))
    (holds_more (written_names (take i items)) (name ∷ []) old new before adds)

flat_one : (f : PlacedItem → List (List ℕ)) (xs : List PlacedItem) (x : PlacedItem) → flat_map f (xs ++ x ∷ []) ≡ flat_map f xs ++ f x
flat_one f [] x = append-nil (f x)
flat_one f (y ∷ ys) x = ap (λ t. f y ++ t) (flat_one f ys x) ∙ sym (append_assoc (f y) (flat_map f ys) (f x))

-- what one item more makes
pub holds_made : (items : List PlacedItem) (i : ℕ) (x : PlacedItem) (old new : Texts) → i < length items → x ≡ get_or items i x → Holds old (names_before items i) → Adds (made_by x.item) old new
    → Holds new (names_before items (i + 1))
holds_made items i x old new l is before adds =
    subst (Holds new)
    (append_assoc (written_names items) (flat_map (λ (p : PlacedItem). made_by p.item) (take i items)) (made_by x.item)
    ∙ ap (λ t. written_names items ++ t)
    (sym (flat_one (λ (p : PlacedItem). made_by p.item) (take i items) x)
    ∙ ap (λ z. flat_map (λ (p : PlacedItem). made_by p.item) (take i items ++ z ∷ [])) is
    ∙ sym (ap (flat_map (λ (p : PlacedItem). made_by p.item)) (take_more items i x l))))
    (holds_more (names_before items i) (made_by x.item) old new before adds)

pub holds_start : (items : List PlacedItem) (set : Texts) → Holds set (written_names items) → Holds set (names_before items 0)
holds_start items set h = subst (Holds set) (sym (append-nil (written_names items))) h

-- whose name is taken

or_cases : (a b : Bool) → (a || b) ≡ true → (a ≡ true) ⊎ (b ≡ true)
or_cases true b h = inl refl
or_cases false b h = inr h

left_or : (a b : Bool) → a ≡ true → (a || b) ≡ true
left_or a b h = ap (λ t. t || b) h

right_or : (a b : Bool) → b ≡ true → (a || b) ≡ true
right_or true b h = refl
right_or false b h = h

pub flips : (a b : List ℕ) → bytes_eq a b ≡ bytes_eq b a
flips a b = elim (either (bytes_eq a b)) [
  | inl e ↦ e ∙ sym ((bytes_eq-Decides b a).1 (sym ((bytes_eq-Decides a b).0 e)))
  | inr e ↦ elim (either (bytes_eq b a)) [
    | inl f ↦ absurd (false≢true (sym e ∙ (bytes_eq-Decides a b).1 (sym ((bytes_eq-Decides b a).0 f))))
    | inr f ↦ e ∙ sym f
  ]
]

found_among : (rows : List FoundRow) (name : List ℕ) → list_any (λ row. bytes_eq (lower name) (lower (found_name row))) rows ≡ has_lower (map found_name rows) name
found_among [] name = refl
found_among (row ∷ rows) name =
    ap (λ b. b || list_any (λ row. bytes_eq (lower name) (lower (found_name row))) rows) (flips (lower name) (lower (found_name row)))
    ∙ ap (λ b. bytes_eq (lower (found_name row)) (lower name) || b) (found_among rows name)

found_is : (name : List ℕ) → is_found name ≡ has_lower (map found_name table) name
unfolding is_found
found_is name = found_among table name

made_from : (name : List ℕ) (items : List PlacedItem) (i : ℕ) → has_lower (flat_map (λ (p : PlacedItem). made_by p.item) (take i items)) name ≡ true → MadeBefore items i name
made_from name [] zero h = absurd cc
made_from name [] (suc i) h = absurd cc
made_from name (x ∷ xs) zero h = absurd cc
made_from name (x ∷ xs) (suc i) h =
    elim (or_cases (has_lower (made_by x.item) name) (has_lower (flat_map (λ (p : PlacedItem). made_by p.item) (take i xs)) name)
    (sym (list_any-append (λ n. same_lower n name) (made_by x.item) (flat_map (λ (p : PlacedItem). made_by p.item) (take i xs))) ∙ h)) [
      | inl e ↦ record { j = 0; earlier = x; at = refl; before = omega arith; same = e }
      | inr e ↦ let m : MadeBefore xs i name = made_from name xs i e in record { j = suc m.j; earlier = m.earlier; at = m.at; before = omega (arith, m.before); same = m.same }
    ]

made_to : (name : List ℕ) (items : List PlacedItem) (i j : ℕ) (earlier : PlacedItem) → slice_get items j ≡ Some earlier → j < i → has_lower (made_by earlier.item) name ≡ true
    → has_lower (flat_map (λ (p : PlacedItem). made_by p.item) (take i items)) name ≡ true
made_to name [] i j e at l same_ = absurd cc
made_to name (x ∷ xs) zero j e at l same_ = absurd (omega (arith, l))
made_to name (x ∷ xs) (suc i) zero e at l same_ =
    list_any-append (λ n. same_lower n name) (made_by x.item) (flat_map (λ (p : PlacedItem). made_by p.item) (take i xs))
    ∙ left_or (has_lower (made_by x.item) name) _ (ap (λ (o : Option PlacedItem). has_lower (made_by (unwrap_or o x).item) name) at ∙ same_)
made_to name (x ∷ xs) (suc i) (suc j) e at l same_ =
    list_any-append (λ n. same_lower n name) (made_by x.item) (flat_map (λ (p : PlacedItem). made_by p.item) (take i xs))
    ∙ right_or (has_lower (made_by x.item) name) _ (made_to name xs i j e at (omega (arith, l)) same_)

module _ (items : List PlacedItem) (i : ℕ) (set : Texts) (holds : Holds set (names_before items i)) (name : List ℕ) where
  known : contains_text set (lower name) ≡ (has_lower (written_names items) name || has_lower (flat_map (λ (p : PlacedItem). made_by p.item) (take i items)) name)
  known = holds (lower name) ∙ with_more (written_names items) (flat_map (λ (p : PlacedItem). made_by p.item) (take i items)) (lower name)

  pub taken_from : is_taken set name ≡ true → IsTaken items i name
  taken_from h = elim (or_cases (contains_text set (lower name)) (is_found name) h) [
    | inl e ↦ elim (or_cases (has_lower (written_names items) name) (has_lower (flat_map (λ (p : PlacedItem). made_by p.item) (take i items)) name) (sym known ∙ e)) [
      | inl f ↦ inl f
      | inr f ↦ inr (inr (made_from name items i f))
    ]
    | inr e ↦ inr (inl (sym (found_is name) ∙ e))
  ]

  pub taken_to : IsTaken items i name → is_taken set name ≡ true
  taken_to (inl h) = left_or (contains_text set (lower name)) (is_found name) (known ∙ left_or (has_lower (written_names items) name) _ h)
  taken_to (inr (inl h)) = right_or (contains_text set (lower name)) (is_found name) (found_is name ∙ h)
  taken_to (inr (inr m)) =
      left_or (contains_text set (lower name)) (is_found name)
      (known ∙ right_or (has_lower (written_names items) name) _ (made_to name items i m.j m.earlier m.at m.before m.same))

-- one name more among those that an item makes
pub clash_more : (set : Texts) (at : Place) (names : List (List ℕ)) (i : ℕ) (name : List ℕ) (a b c : Option Entry) → name ≡ get_or names i name → i < length names
    → b ≡ cond (is_taken set name) (Some (clash_entry at name)) None → c ≡ earlier_of a b
    → IsFirst (Below i (At names (λ n. Only (IsTrue (is_taken set n)) (clash_entry at n)))) a
    → IsFirst (Below (i + 1) (At names (λ n. Only (IsTrue (is_taken set n)) (clash_entry at n)))) c
clash_more set at names i name a b c is l gives together before =
    one_more_element names (λ n. Only (IsTrue (is_taken set n)) (clash_entry at n)) i name a b c is together before
    (subst (IsFirst (Only (IsTrue (is_taken set name)) (clash_entry at name))) (sym gives)
    (only_if (IsTrue (is_taken set name)) (clash_entry at name) (is_taken set name) (λ e. e) (λ e h. false≢true (sym e ∙ h))))
    l

-- one item more
pub clash_turn : (items : List PlacedItem) (i : ℕ) (x : PlacedItem) (set : Texts) (a b c : Option Entry) → i < length items → x ≡ get_or items i x → Holds set (names_before items i)
    → IsFirst (Among (made_by x.item) (λ n. Only (IsTrue (is_taken set n)) (clash_entry x.places.at n))) b → c ≡ earlier_of a b
    → IsFirst (Below i (ClashesAt items)) a → IsFirst (Below (i + 1) (ClashesAt items)) c
unfolding Below At Only
clash_turn items i x set a b c l is holds first together before =
    one_more_as (ClashesAt items) i a b c together before
    (at_element items (λ z. Among (made_by z.item) (λ n. Only (IsTaken items i n) (clash_entry z.places.at n))) i x b (slice_get_read items (length items) i x refl l is)
    (same (Among (made_by x.item) (λ n. Only (IsTrue (is_taken set n)) (clash_entry x.places.at n)))
    (Among (made_by x.item) (λ n. Only (IsTaken items i n) (clash_entry x.places.at n))) b
    (λ e h. (h.0, h.1, (h.2.0, h.2.1, (taken_from items i set holds h.2.0 h.2.2.0, h.2.2.1))))
    (λ e h. (h.0, h.1, (h.2.0, h.2.1, (taken_to items i set holds h.2.0 h.2.2.0, h.2.2.1))))
    first))

pub on_ok_then : {X E : Type 0} (r : Result X E) (P Q : Type 0) → (P → Q) → OnOk r P → OnOk r Q
on_ok_then (Ok x) P Q f h = f h
on_ok_then (Err e) P Q f h = tt

pub if_ok_then : {X E : Type 0} (r : Result X E) (P Q : X → Type 0) → ((x : X) → P x → Q x) → IfOk r P → IfOk r Q
if_ok_then (Ok x) P Q f h = f x h
if_ok_then (Err e) P Q f h = tt

pub if_ok_three : {X E : Type 0} (r : Result X E) (A B C D : X → Type 0) → ((x : X) → A x → B x → C x → D x) → IfOk r A → IfOk r B → IfOk r C → IfOk r D
if_ok_three (Ok x) A B C D f a b c = f x a b c
if_ok_three (Err e) A B C D f a b c = tt
