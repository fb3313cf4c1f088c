-- Entries in the order of their keys, in a tree and in a finite map.
use Rattle.std.proofs.Common.{◌≡◌, ℕ, zero, suc, ◌+◌, Bool, true, false, ◌&&◌, T, List, [], ◌∷◌, ◌++◌, length, take, drop, get_or, is_lt, Contains, String, string_bytes, refl, sym, ap, subst, ◌∙◌, append_assoc, arith}
use Rattle.std.proofs.Common.{map as list_map}
use Rattle.std.specs.declared.alloc.Global.{Global}
use Rattle.std.specs.declared.cmp.Ordering.{Ordering}
use Rattle.std.specs.declared.cmp.Ordering.TheVariants.{Less, Equal, Greater}
use Rattle.std.specs.List.{AllAdjacentBelow}
use Rattle.std.specs.List.Sorted.{IsPermutation}
use Rattle.std.proofs.lemmas.List.Sorted.{length_permutation, Contains-permutation}
use Rattle.std.specs.Ordering.{nat_cmp, match_ordering}
use Rattle.std.specs.String.{string_cmp}
use Rattle.std.specs.BTreeMap.{insert_entry}
use Rattle.std.specs.Cmp.Lexicographic.{slice_cmp, nat_list_cmp_total}
use Rattle.std.specs.FinMap as map
use Rattle.std.specs.FinMap.Entries.{by_order}
use Rattle.std.proofs.Math.Seq.{drop-length, drop-append_seam, take-append_seam}
use Rattle.std.proofs.lemmas.List.{take-append-drop}
use Rattle.wr_base.specs.Sets.{keyed, set_by, by_bytes}

nothing : {A : Type 0} (es : List A) → length es ≡ 0 → es ≡ []
nothing [] e = refl
nothing (x ∷ es) e = absurd (omega arith)

module _ {X : Type 0} where
  pub by_bytes-insert_entry : (es : List (String Global × X)) (k : String Global) (v : X)
      → by_bytes (insert_entry string_cmp es k v) ≡ map.put (slice_cmp nat_cmp) (string_bytes k) v (by_bytes es)
  by_bytes-insert_entry [] k v = refl
  by_bytes-insert_entry (e ∷ es) k v =
      elim (string_cmp k e.0) as (λ r. by_bytes (match_ordering r ((k, v) ∷ e ∷ es) ((e.0, v) ∷ es) (e ∷ insert_entry string_cmp es k v))
      ≡ by_order r ((string_bytes k, v) ∷ by_bytes (e ∷ es)) ((string_bytes e.0, v) ∷ by_bytes es) ((string_bytes e.0, e.1) ∷ map.put (slice_cmp nat_cmp) (string_bytes k) v (by_bytes es))) [
        | Less ↦ refl
        | Equal ↦ refl
        | Greater ↦ ap (λ t. (string_bytes e.0, e.1) ∷ t) (by_bytes-insert_entry es k v)
      ]

  pub nothing_yet : (key : X → List ℕ) (items : List X) (found : List (String Global × X)) → found ≡ []
      → by_bytes found ≡ map.entries (map.from_entries {R = slice_cmp nat_cmp} (keyed key (drop (length items) items)))
  nothing_yet key items found e =
      ap by_bytes e ∙ sym (ap (λ xs. map.entries (map.from_entries {R = slice_cmp nat_cmp} (keyed key xs))) (drop-length items)
      ∙ nothing _ (sym (map.len-entries map.empty) ∙ map.len-empty (slice_cmp nat_cmp) X))

  -- the last of what is left goes in
  pub one_more : (key : X → List ℕ) (items old new : List X) (item : X) (before after : List (String Global × X)) (text : String Global)
      → old ≡ new ++ item ∷ [] → old ≡ take (length old) items → string_bytes text ≡ key item → after ≡ insert_entry string_cmp before text item
      → by_bytes before ≡ map.entries (map.from_entries {R = slice_cmp nat_cmp} (keyed key (drop (length old) items)))
      → by_bytes after ≡ map.entries (map.from_entries {R = slice_cmp nat_cmp} (keyed key (drop (length new) items)))
  one_more key items old new item before after text popped left k put found =
      let whole : items ≡ new ++ item ∷ drop (length old) items =
      sym (take-append-drop (length old) items) ∙ ap (λ t. t ++ drop (length old) items) (sym left ∙ popped) ∙ append_assoc new (item ∷ []) (drop (length old) items) in
      let rest : drop (length new) items ≡ item ∷ drop (length old) items = ap (drop (length new)) whole ∙ drop-append_seam new _ in
      ap by_bytes put ∙ by_bytes-insert_entry before text item
      ∙ ap (λ n. map.put (slice_cmp nat_cmp) n item (by_bytes before)) k
      ∙ ap (map.put (slice_cmp nat_cmp) (key item) item) found
      ∙ sym (map.entries-insert nat_list_cmp_total _ (key item) item)
      ∙ ap (λ xs. map.entries (map.from_entries {R = slice_cmp nat_cmp} (keyed key xs))) (sym rest)

  pub left_less : (items old new : List X) (item : X) → old ≡ new ++ item ∷ [] → old ≡ take (length old) items → new ≡ take (length new) items
  left_less items old new item popped left =
      let whole : items ≡ new ++ item ∷ drop (length old) items =
      sym (take-append-drop (length old) items) ∙ ap (λ t. t ++ drop (length old) items) (sym left ∙ popped) ∙ append_assoc new (item ∷ []) (drop (length old) items) in
      sym (ap (take (length new)) whole ∙ take-append_seam new _)

  pub values-by_bytes : (es : List (String Global × X)) → list_map (λ e. e.1) (by_bytes es) ≡ list_map (λ e. e.1) es
  values-by_bytes [] = refl
  values-by_bytes (e ∷ es) = ap (λ t. e.1 ∷ t) (values-by_bytes es)

both_hold : (a b : Bool) → T (a && b) → T a × T b
both_hold true b p = (tt, p)
both_hold false b p = absurd p

less_of : (o : Ordering) → T (is_lt o) → o ≡ Less
less_of Less p = refl
less_of Equal p = absurd p
less_of Greater p = absurd p

-- the lists that `set_by` gives rise
module _ {X : Type 0} (key : X → List ℕ) where
  abbrev AreKeyed : List (List ℕ × X) → Type 0
  AreKeyed [] = Unit {0}
  AreKeyed (e ∷ es) = (e.0 ≡ key e.1) × AreKeyed es

  AreKeyed-put : (k : List ℕ) (v : X) (es : List (List ℕ × X)) → k ≡ key v → AreKeyed es → AreKeyed (map.put (slice_cmp nat_cmp) k v es)
  AreKeyed-put k v [] e h = (e, tt)
  AreKeyed-put k v (x ∷ es) e h =
      elim (slice_cmp nat_cmp k x.0) as (λ r. slice_cmp nat_cmp k x.0 ≡ r
      → AreKeyed (by_order r ((k, v) ∷ x ∷ es) ((x.0, v) ∷ es) (x ∷ map.put (slice_cmp nat_cmp) k v es))) [
        | Less ↦ λ r. (e, h)
        | Equal ↦ λ r. (sym (map.slice_cmp-IsAntisymmetric map.nat_cmp-IsAntisymmetric k x.0 r) ∙ e, h.1)
        | Greater ↦ λ r. (h.0, AreKeyed-put k v es e h.1)
      ] refl

  AreKeyed-from_entries : (items : List X) → AreKeyed (map.entries (map.from_entries {R = slice_cmp nat_cmp} (keyed key items)))
  AreKeyed-from_entries [] =
      subst AreKeyed (sym (nothing _ (sym (map.len-entries map.empty) ∙ map.len-empty (slice_cmp nat_cmp) X))) tt
  AreKeyed-from_entries (x ∷ items) =
      subst AreKeyed (sym (map.entries-insert nat_list_cmp_total _ (key x) x)) (AreKeyed-put (key x) x _ refl (AreKeyed-from_entries items))

  rises_from_sorted : (es : List (List ℕ × X)) → T (map.is_sorted (slice_cmp nat_cmp) es) → AreKeyed es
      → AllAdjacentBelow (λ a b. slice_cmp nat_cmp (key a) (key b) ≡ Less) (list_map (λ e. e.1) es) (length (list_map (λ e. e.1) es))
  rises_from_sorted [] s h k d l = absurd (omega (arith, l))
  rises_from_sorted (x ∷ []) s h k d l = absurd (omega (arith, l))
  rises_from_sorted (x ∷ y ∷ es) s h zero d l =
      let below = (both_hold _ _ (both_hold _ _ s).0).0 in
      subst (λ a. slice_cmp nat_cmp a (key y.1) ≡ Less) h.0 (subst (λ b. slice_cmp nat_cmp x.0 b ≡ Less) h.1.0 (less_of _ below))
  rises_from_sorted (x ∷ y ∷ es) s h (suc k) d l =
      let ys : List X = list_map (λ e. e.1) (y ∷ es) in
      let next : suc k + 1 ≡ suc (k + 1) = omega arith in
      let item : get_or (x.1 ∷ ys) (suc k + 1) d ≡ get_or ys (k + 1) d = ap (λ m. get_or (x.1 ∷ ys) m d) next in
      subst (λ z. slice_cmp nat_cmp (key (get_or ys k d)) (key z) ≡ Less) (sym item)
      (rises_from_sorted (y ∷ es) (both_hold _ _ s).1 h.1 k d (omega (arith, l)))

  pub rises-set_by : (items : List X) → AllAdjacentBelow (λ a b. slice_cmp nat_cmp (key a) (key b) ≡ Less) (set_by key items) (length (set_by key items))
  rises-set_by items = rises_from_sorted _ (map.entries_sorted _) (AreKeyed-from_entries items)

one_element : {X : Type 0} (x : X) (ys : List X) → length ys ≡ 1 → Contains ys x → ys ≡ x ∷ []
one_element x [] n h = absurd (omega (arith, n))
one_element x (y ∷ []) n (zero, l, e) = ap (λ z. z ∷ []) e
one_element x (y ∷ []) n (suc k, l, e) = absurd (omega (arith, l))
one_element x (y ∷ z ∷ zs) n h = absurd (omega (arith, n))

-- one element alone has one order
pub IsPermutation-one : {X : Type 0} (x : X) (ys : List X) → IsPermutation (x ∷ []) ys → ys ≡ x ∷ []
IsPermutation-one x ys p = one_element x ys (length_permutation _ _ p) (Contains-permutation (x ∷ []) ys x p (0, omega arith, refl))
