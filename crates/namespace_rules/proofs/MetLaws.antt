-- Names that were met are those of declarations that stand before.
use Rattle.std.proofs.Common.{◌≡◌, ◌⊎◌, ⊎_elim, inl, inr, ◌<◌, ◌≤◌, ◌+◌, ℕ, zero, suc, Bool, true, false, ◌||◌, List, [], ◌∷◌, length, take, get_or, slice_get, Option, Some, is_lt, String, refl, sym, ap, subst, ◌∙◌, arith, true≢false}
use Rattle.std.specs.List.{list_any}
use Rattle.std.specs.Str.{bytes_eq}
use Rattle.std.specs.BTreeSet.{BTreeSet}
use Rattle.std.specs.HashSet.{contains_text}
use Rattle.std.specs.declared.alloc.Global.{Global}
use Rattle.std.specs.declared.cmp.Ordering.{Ordering}
use Rattle.std.specs.declared.cmp.Ordering.TheVariants.{Less, Equal, Greater}
use Rattle.std.specs.Ordering.{nat_cmp, ordering_then}
use Rattle.std.specs.Cmp.{nat_cmp_is}
use Rattle.std.proofs.lemmas.Bool.{false≢true}
use Rattle.std.proofs.lemmas.List.{take_more}
use Rattle.std.proofs.lemmas.List.Folds.{list_any-append}
use Rattle.std.proofs.lemmas.Option.{same_Some, none-some, slice_get_within}
use Rattle.std.proofs.lemmas.Slice.Eq.{bytes_eq-Decides}
use Rattle.ranked.specs.Entries.{Entry}
use Rattle.ranked.specs.First.{IsFirst, Below, At, Only}
use Rattle.ranked.specs.declared.place.Place.{Place}
use Rattle.ranked.proofs.FirstLaws.{same}
use Rattle.wr_base.specs.Lower.{lower}
use Rattle.wr_base.specs.declared.code.Code.TheVariants.{NamespaceClash}
use Rattle.wr_base.proofs.PartLaws.{either}
use Rattle.found_table.specs.Found.{FoundRow}
use Rattle.found_table.specs.Table.{table, is_found, name_of as found_name}
use Rattle.wr_rules.specs.Sites.{Site, site_name, spot_of, broken_at, StandsBefore, If}
use Rattle.wr_rules.specs.NameRules.{all_names, same_lower, NamesClash, IsNamespaceClash}
use Rattle.place_laws.proofs.OrderLaws.{Before, same_place, at_once, so_before}
use Rattle.place_order.specs.declared.stands.Stand.{Stand}
use Rattle.place_order.specs.Stands.{IsPlaceOrder}
use Rattle.place_order.proofs.StandLaws.{get_there}
use Rattle.place_order.proofs.SumLaws.{stands_lower}
use Rattle.place_order.proofs.EarlierLaws.{lower_first, none_lower, site_of_stand, stand_of_site}
use Rattle.flagged_sites.proofs.FlagLaws.{if_told, tell_if}
use Rattle.namespace_rules.specs.Spaces.{Texts, holds_in, AddsText, HasSpaces, is_told}
use Rattle.namespace_rules.specs.Pass.{has_name, is_named, HasMet, ClashAt}

-- ---- the order of stands

data Way (a b : ℕ) : Ordering → Type 0 where
  less : a < b → Way a b Less
  even : a ≡ b → Way a b Equal
  more : b < a → Way a b Greater

three_ways : (a b : ℕ) → (a < b) ⊎ ((a ≡ b) ⊎ (b < a))
three_ways a b = grind arith

way : (a b : ℕ) → Way a b (nat_cmp a b)
way a b = ⊎_elim
    (λ l. subst (λ (o : Ordering). Way a b o) (nat_cmp_is a b Less l) (less l))
    (λ r. ⊎_elim (λ e. subst (λ (o : Ordering). Way a b o) (nat_cmp_is a b Equal e) (even e)) (λ g. subst (λ (o : Ordering). Way a b o) (nat_cmp_is a b Greater g) (more g)) r)
    (three_ways a b)

abbrev lower_by : Ordering → Ordering → Ordering → Bool
lower_by a b c = is_lt (ordering_then a (ordering_then b (ordering_then c Equal)))

by_keys : (p q : Place) (j k : ℕ) (a b c : Ordering) → Way p.file q.file a → Way p.offset q.offset b → Way j k c → lower_by a b c ≡ true → Before p j q k
by_keys p q j k a b c (less l) v w h = inl (inl l)
by_keys p q j k a b c (more g) v w h = absurd (false≢true h)
by_keys p q j k a b c (even e) (less l) w h = inl (inr (e, l))
by_keys p q j k a b c (even e) (more g) w h = absurd (false≢true h)
by_keys p q j k a b c (even e) (even f) (less l) h = inr (same_place p q e f, l)
by_keys p q j k a b c (even e) (even f) (even g) h = absurd (false≢true h)
by_keys p q j k a b c (even e) (even f) (more g) h = absurd (false≢true h)

not_by_keys : (p q : Place) (j k : ℕ) (a b c : Ordering) → Way p.file q.file a → Way p.offset q.offset b → Way j k c → lower_by a b c ≡ false → Before p j q k → ⊥
not_by_keys p q j k a b c (less l) v w h = λ t. true≢false h
not_by_keys p q j k a b c (more g) v w h = ⊎_elim
    (λ l. ⊎_elim (λ x. omega (arith, g, x)) (λ x. (let y = x.0 in omega (arith, g, y))) l)
    (λ s. (let y = ap (λ (z : Place). z.file) s.0 in omega (arith, g, y)))
not_by_keys p q j k a b c (even e) (less l) w h = λ t. true≢false h
not_by_keys p q j k a b c (even e) (more g) w h = ⊎_elim
    (λ l. ⊎_elim (λ x. omega (arith, e, x)) (λ x. (let y = x.1 in omega (arith, g, y))) l)
    (λ s. (let y = ap (λ (z : Place). z.offset) s.0 in omega (arith, g, y)))
not_by_keys p q j k a b c (even e) (even f) (less l) h = λ t. true≢false h
not_by_keys p q j k a b c (even e) (even f) (even g) h = ⊎_elim
    (λ l. ⊎_elim (λ x. omega (arith, e, x)) (λ x. (let y = x.1 in omega (arith, f, y))) l)
    (λ s. (let y = s.1 in omega (arith, g, y)))
not_by_keys p q j k a b c (even e) (even f) (more g) h = ⊎_elim
    (λ l. ⊎_elim (λ x. omega (arith, e, x)) (λ x. (let y = x.1 in omega (arith, f, y))) l)
    (λ s. (let y = s.1 in omega (arith, g, y)))

lower_before : (x y : Stand) → stands_lower x y ≡ true → Before x.place x.number y.place y.number
lower_before x y h = by_keys x.place y.place x.number y.number _ _ _ (way x.place.file y.place.file) (way x.place.offset y.place.offset) (way x.number y.number) h

not_before : (x y : Stand) → stands_lower x y ≡ false → Before x.place x.number y.place y.number → ⊥
not_before x y h = not_by_keys x.place y.place x.number y.number _ _ _ (way x.place.file y.place.file) (way x.place.offset y.place.offset) (way x.number y.number) h

-- ---- what is among the first ones

or_cases : (a b : Bool) → (a || b) ≡ true → (a ≡ true) ⊎ (b ≡ true)
or_cases true b h = inl refl
or_cases false b h = inr h

left_or : (a b : Bool) → a ≡ true → (a || b) ≡ true
left_or a b h = ap (λ t. t || b) h

right_or : (a b : Bool) → b ≡ true → (a || b) ≡ true
right_or true b h = refl
right_or false b h = h

or_false : (a : Bool) → (a || false) ≡ a
or_false true = refl
or_false false = refl

module _ {X : Type 0} (p : X → Bool) where
  any_there : (xs : List X) (i : ℕ) → list_any p (take i xs) ≡ true → (j : ℕ) × (x : X) × (j < i) × (slice_get xs j ≡ Some x) × (p x ≡ true)
  any_there [] zero h = absurd (false≢true h)
  any_there [] (suc i) h = absurd (false≢true h)
  any_there (x ∷ xs) zero h = absurd (false≢true h)
  any_there (x ∷ xs) (suc i) h = ⊎_elim (λ e. (0, x, omega arith, refl, e)) (λ e. (let r = any_there xs i e in let l = r.2 in (suc r.0, r.1, omega (arith, l), r.3, r.4))) (or_cases (p x) (list_any p (take i xs)) h)

  any_at : (xs : List X) (i j : ℕ) (x : X) → j < i → slice_get xs j ≡ Some x → p x ≡ true → list_any p (take i xs) ≡ true
  any_at [] i j x l e h = absurd (none-some x e)
  any_at (y ∷ ys) zero j x l e h = absurd (omega (arith, l))
  any_at (y ∷ ys) (suc i) zero x l e h = left_or (p y) (list_any p (take i ys)) (ap p (same_Some y x e) ∙ h)
  any_at (y ∷ ys) (suc i) (suc j) x l e h = right_or (p y) (list_any p (take i ys)) (any_at ys i j x (omega (arith, l)) e h)

  any_more : (xs : List X) (i : ℕ) (x : X) → slice_get xs i ≡ Some x → list_any p (take (i + 1) xs) ≡ (list_any p (take i xs) || p x)
  any_more xs i x e =
      ap (list_any p) (take_more xs i x (slice_get_within xs i x e)) ∙ list_any-append p (take i xs) (get_or xs i x ∷ []) ∙ ap (λ t. list_any p (take i xs) || t) (or_false (p (get_or xs i x)) ∙ ap p (get_there xs i x x e))

-- ---- found types

flips : (a b : List ℕ) → bytes_eq a b ≡ bytes_eq b a
flips a b = elim (either (bytes_eq a b)) [
  | inl e ↦ e ∙ sym ((bytes_eq-Decides b a).1 (sym ((bytes_eq-Decides a b).0 e)))
  | inr e ↦ elim (either (bytes_eq b a)) [
    | inl f ↦ absurd (false≢true (sym e ∙ (bytes_eq-Decides a b).1 (sym ((bytes_eq-Decides b a).0 f))))
    | inr f ↦ e ∙ sym f
  ]
]

found_among : (rows : List FoundRow) (name : List ℕ) → list_any (λ row. bytes_eq (lower name) (lower (found_name row))) rows ≡ list_any (λ row. same_lower (found_name row) name) rows
found_among [] name = refl
found_among (row ∷ rows) name =
    ap (λ b. b || list_any (λ r. bytes_eq (lower name) (lower (found_name r))) rows) (flips (lower name) (lower (found_name row)))
    ∙ ap (λ b. bytes_eq (lower (found_name row)) (lower name) || b) (found_among rows name)

found_is : (name : List ℕ) → is_found name ≡ list_any (λ row. same_lower (found_name row) name) table
unfolding is_found
found_is name = found_among table name

-- ---- the pass

module _ (sites : List Site) (stands : List Stand) where
  -- one name more
  pub met_more : (i : ℕ) (x : Stand) (s : Site) (name : List ℕ) (old new : Texts) → slice_get stands i ≡ Some x → slice_get sites x.number ≡ Some s → name ≡ site_name s → HasMet sites stands i old → AddsText (lower name) old new → HasMet sites stands (i + 1) new
  met_more i x s name old new there at is before adds q =
      adds q ∙ ap (λ t. t || bytes_eq (lower name) q) (before q)
      ∙ ap (λ t. list_any (is_named sites q) (take i stands) || t) (ap (λ (n : List ℕ). bytes_eq (lower n) q) is ∙ sym (ap (has_name q) at))
      ∙ sym (any_more (is_named sites q) stands i x there)

  module _ (o : IsPlaceOrder sites stands) (i : ℕ) (x : Stand) (s : Site) (there : slice_get stands i ≡ Some x) (at : slice_get sites x.number ≡ Some s) where
    place_here : x.place ≡ s.places.at
    place_here = let r = site_of_stand sites stands o i x there in r.2 ∙ ap (λ (z : Site). z.places.at) (same_Some r.0 s (sym r.1 ∙ at))

    pub before_here : (j : ℕ) (y : Stand) → j < i → slice_get stands j ≡ Some y → (t : Site) × (slice_get sites y.number ≡ Some t) × StandsBefore sites y.number x.number
    before_here j y l e =
        let r = site_of_stand sites stands o j y e in
        let w = lower_first sites stands o j i x l (slice_get_within stands i x there) in
        let v = subst (λ (z : Stand). stands_lower y z ≡ true) (get_there stands i x x there) (subst (λ (z : Stand). stands_lower z (get_or stands i x) ≡ true) (get_there stands j y x e) w) in
        (r.0, r.1, at_once sites y.number x.number r.0 s r.1 at (subst (λ (p : Place). Before p y.number s.places.at x.number) r.2 (subst (λ (p : Place). Before y.place y.number p x.number) place_here (lower_before y x v))))

    side : (m n : ℕ) → (m < n) ⊎ (n ≤ m)
    side m n = grind arith

    pub here_before : (j : ℕ) (t : Site) → slice_get sites j ≡ Some t → StandsBefore sites j x.number → (p : ℕ) × (y : Stand) × (p < i) × (slice_get stands p ≡ Some y) × (y.number ≡ j)
    here_before j t e b =
        let f = stand_of_site sites stands o j t e in
        ⊎_elim (λ l. (f.0, f.1, l, f.2, f.3)) (λ l. absurd (not_late f.0 f.1 l f.2 f.3)) (side f.0 i)
      where
        not_late : (p : ℕ) (y : Stand) → i ≤ p → slice_get stands p ≡ Some y → y.number ≡ j → ⊥
        not_late p y l g n =
            let r = site_of_stand sites stands o p y g in
            let own : slice_get sites y.number ≡ Some t = subst (λ (k : ℕ). slice_get sites k ≡ Some t) (sym n) e in
            let place : y.place ≡ t.places.at = r.2 ∙ ap (λ (z : Site). z.places.at) (same_Some r.0 t (sym r.1 ∙ own)) in
            let w = none_lower sites stands o p i x l (slice_get_within stands p y g) in
            let v = subst (λ (z : Stand). stands_lower y z ≡ false) (get_there stands i x x there) (subst (λ (z : Stand). stands_lower z (get_or stands i x) ≡ false) (get_there stands p y x g) w) in
            not_before y x v
            (subst (λ (k : ℕ). Before y.place k x.place x.number) (sym n)
            (subst (λ (q : Place). Before q j x.place x.number) (sym place) (subst (λ (q : Place). Before t.places.at j q x.number) (sym place_here) (so_before sites j x.number t s e at b))))

    module _ (spaces : BTreeSet (String Global)) (met : Texts) (has_spaces : HasSpaces (all_names sites) spaces) (has_met : HasMet sites stands i met) where
      told_from : is_told spaces met (site_name s) ≡ true → NamesClash sites x.number (site_name s)
      told_from h = ⊎_elim
          (λ a. inl (sym (has_spaces (lower (site_name s))) ∙ a))
          (λ b. ⊎_elim
          (λ a. inr (inl (sym (found_is (site_name s)) ∙ a)))
          (λ a.
          let r = any_there (is_named sites (lower (site_name s))) stands i (sym (has_met (lower (site_name s))) ∙ a) in
          let t = before_here r.0 r.1 r.2 r.3 in
          inr (inr (record { j = r.1.number; other = t.0; at = t.1; before = t.2; same = sym (ap (has_name (lower (site_name s))) t.1) ∙ r.4 })))
          (or_cases (is_found (site_name s)) (contains_text met (lower (site_name s))) b))
          (or_cases (holds_in spaces (lower (site_name s))) (is_found (site_name s) || contains_text met (lower (site_name s))) h)

      told_to : NamesClash sites x.number (site_name s) → is_told spaces met (site_name s) ≡ true
      told_to (inl h) = left_or (holds_in spaces (lower (site_name s))) _ (has_spaces (lower (site_name s)) ∙ h)
      told_to (inr (inl h)) = right_or (holds_in spaces (lower (site_name s))) _ (left_or (is_found (site_name s)) (contains_text met (lower (site_name s))) (found_is (site_name s) ∙ h))
      told_to (inr (inr t)) =
          let r = here_before t.j t.other t.at t.before in
          right_or (holds_in spaces (lower (site_name s))) _ (right_or (is_found (site_name s)) _
          (has_met (lower (site_name s))
          ∙ any_at (is_named sites (lower (site_name s))) stands i r.0 r.1 r.2 r.3
          (ap (λ (k : ℕ). has_name (lower (site_name s)) (slice_get sites k)) r.4 ∙ ap (has_name (lower (site_name s))) t.at ∙ t.same)))

      pub step_clash : (told : Bool) (name : List ℕ) (r : Option Entry) → name ≡ site_name s → told ≡ is_told spaces met name → IsFirst (If told NamespaceClash (spot_of s)) r → IsFirst (ClashAt sites stands i) r
      unfolding Only
      step_clash told name r is e h = same (If told NamespaceClash (spot_of s)) (ClashAt sites stands i) r to from h
        where
          tells : told ≡ is_told spaces met (site_name s)
          tells = e ∙ ap (is_told spaces met) is

          to : (en : Entry) → If told NamespaceClash (spot_of s) en → ClashAt sites stands i en
          to en g = let t = if_told told NamespaceClash (spot_of s) en g in (x, s, there, at, (told_from (sym tells ∙ t.0), t.1))

          from : (en : Entry) → ClashAt sites stands i en → If told NamespaceClash (spot_of s) en
          from en (y, z, there_, at_, (clash, g)) =
              let q : y ≡ x = same_Some y x (sym there_ ∙ there) in
              let w : z ≡ s = same_Some z s (sym at_ ∙ ap (λ (k : Stand). slice_get sites k.number) q ∙ at) in
              tell_if told NamespaceClash (spot_of s) en
              (tells ∙ told_to (subst (λ (k : Stand). NamesClash sites k.number (site_name s)) q (subst (λ (v : Site). NamesClash sites y.number (site_name v)) w clash)))
              (g ∙ ap (λ (v : Site). broken_at NamespaceClash (spot_of v)) w)

  -- all in order are all
  pub all_clashes : IsPlaceOrder sites stands → (r : Option Entry) → IsFirst (Below (length stands) (ClashAt sites stands)) r → IsFirst (IsNamespaceClash sites) r
  unfolding Below At Only
  all_clashes o r h = same (Below (length stands) (ClashAt sites stands)) (IsNamespaceClash sites) r to from h
    where
      to : (e : Entry) → Below (length stands) (ClashAt sites stands) e → IsNamespaceClash sites e
      to e (p, l, (x, s, there, at, g)) = (x.number, slice_get_within sites x.number s at, (s, at, g))

      from : (e : Entry) → IsNamespaceClash sites e → Below (length stands) (ClashAt sites stands) e
      from e (k, l, (s, at, g)) =
          let f = stand_of_site sites stands o k s at in
          (f.0, slice_get_within stands f.0 f.1 f.2, (f.1, s, f.2, subst (λ (n : ℕ). slice_get sites n ≡ Some s) (sym f.3) at, (subst (λ (n : ℕ). NamesClash sites n (site_name s)) (sym f.3) g.0, g.1)))
