-- How often a key stands in a list that is in the order of its keys.
use Rattle.std.proofs.Common.{◌≡◌, ℕ, zero, suc, ◌+◌, ◌<◌, ◌≤◌, List, [], ◌∷◌, true, false, cond, length, map, get_or, is_lt, refl, sym, ap, subst, ◌∙◌, arith, add-one}
use Rattle.std.specs.declared.cmp.Ordering.{Ordering}
use Rattle.std.specs.declared.cmp.Ordering.TheVariants.{Less, Equal, Greater}
use Rattle.std.specs.Ordering.{nat_cmp, is_eq, ordering_reverse}
use Rattle.std.specs.Str.{bytes_eq}
use Rattle.std.specs.Cmp.Lexicographic.{slice_cmp, nat_list_cmp_total}
use Rattle.std.specs.List.{count_by, AllAdjacentBelow}
use Rattle.std.specs.List.Sorted.{IsSortedByKey}
use Rattle.std.proofs.lemmas.Map.Text.{is_eq-slice_cmp}
use Rattle.std.proofs.lemmas.List.Sums.{count_by_more_yes, sum_by-take-drop, sum_by-cons}
use Rattle.std.proofs.lemmas.List.Sorted.{sorted_far, ranks_by}
use Rattle.std.proofs.lemmas.List.Sorted.{sum_by-IsPermutation}
use Rattle.std.specs.Cmp.{tied_itself}
use Rattle.std.specs.List.Sorted.{IsPermutation}
use Rattle.wr_base.specs.declared.declaration.Declaration.{Declaration}
use Rattle.wr_base.specs.Declarations.{name_of, Precedes, FirstRepeat, IsLeastTwice, IsOnce, times}
use Rattle.wr_base.specs.Normal.{normal}
use Rattle.wr_base.specs.declared.declaration.Declaration.TheVariants.{Enum, Struct, Delegate, Interface, Class}
use Rattle.wr_base.proofs.TypesLemmas.{same_text, sorted_from_rises}

abbrev text_cmp : List ℕ → List ℕ → Ordering
text_cmp = slice_cmp nat_cmp

-- below a, and b is not below a: below b
below_both : (o a b : List ℕ) (r : Ordering) → text_cmp a b ≡ r → text_cmp o a ≡ Less → is_lt (text_cmp b a) ≡ false → text_cmp o b ≡ Less
below_both o a b Less e l n = nat_list_cmp_total.trans o a b l e
below_both o a b Equal e l n = subst (λ x. text_cmp o x ≡ Less) (same_text a b e) l
below_both o a b Greater e l n = cc (ap is_lt (nat_list_cmp_total.antisymm b a ∙ ap ordering_reverse e), n)

differs : (o a : List ℕ) → text_cmp o a ≡ Less → bytes_eq a o ≡ false
differs o a l = sym (is_eq-slice_cmp a o) ∙ ap is_eq (nat_list_cmp_total.antisymm a o ∙ ap ordering_reverse l)

equal_text : (a b : List ℕ) (r : Ordering) → text_cmp a b ≡ r → bytes_eq a b ≡ true → a ≡ b
equal_text a b Equal e t = same_text a b e
equal_text a b Less e t = cc (ap is_eq (sym e) ∙ is_eq-slice_cmp a b ∙ t)
equal_text a b Greater e t = cc (ap is_eq (sym e) ∙ is_eq-slice_cmp a b ∙ t)

module _ {X : Type 0} (key : X → List ℕ) where
  abbrev count : List X → List ℕ → ℕ
  count xs n = count_by (λ d. bytes_eq (key d) n) xs

  abbrev Rises : List X → ℕ → Type 0
  Rises xs n = AllAdjacentBelow (λ x y. text_cmp (key x) (key y) ≡ Less) xs n

  count-cons : (x : X) (xs : List X) (n : List ℕ) → count (x ∷ xs) n ≡ cond (bytes_eq (key x) n) 1 0 + count xs n
  count-cons x xs n = sum_by-cons (λ d. cond (bytes_eq (key d) n) 1 0) x xs

  none_of : (xs : List X) (n : List ℕ) → ((k : ℕ) (d : X) → k < length xs → text_cmp n (key (get_or xs k d)) ≡ Less) → count xs n ≡ 0
  none_of [] n h = refl
  none_of (x ∷ xs) n h =
      count-cons x xs n
      ∙ ap (λ b. cond b 1 0 + count xs n) (differs n (key x) (h 0 x (omega arith)))
      ∙ (let rest : count xs n ≡ 0 = none_of xs n (λ k d l. h (suc k) d (omega (arith, l))) in omega (arith, rest))

  get_tail : (x : X) (xs : List X) (k : ℕ) (d : X) → get_or (x ∷ xs) (k + 1) d ≡ get_or xs k d
  get_tail x xs k d = ap (λ m. get_or (x ∷ xs) m d) (add-one k)

  tail_sorted : (x : X) (xs : List X) → IsSortedByKey key text_cmp (x ∷ xs) → IsSortedByKey key text_cmp xs
  tail_sorted x xs s k d low high =
      subst (λ z. is_lt (text_cmp (key (get_or xs (k + 1) d)) (key z)) ≡ false) (get_tail x xs k d)
      (subst (λ z. is_lt (text_cmp (key z) (key (get_or (x ∷ xs) (k + 1) d))) ≡ false) (get_tail x xs (k + 1) d) (s (k + 1) d (omega arith) (omega (arith, high))))

  -- no element of a list in order is below its first
  far : (x : X) (xs : List X) → IsSortedByKey key text_cmp (x ∷ xs) → (o : List ℕ) → text_cmp o (key x) ≡ Less
      → (k : ℕ) (d : X) → k < length (x ∷ xs) → text_cmp o (key (get_or (x ∷ xs) k d)) ≡ Less
  far x xs s o l k d h =
      below_both o (key x) (key (get_or (x ∷ xs) k d)) _ refl l
      (sorted_far (λ a b. is_lt (text_cmp (key a) (key b))) (ranks_by nat_list_cmp_total key) (x ∷ xs) s 0 k d (omega arith) h)

  pub tail_rises : (x : X) (xs : List X) (n : ℕ) → Rises (x ∷ xs) (n + 1) → Rises xs n
  tail_rises x xs n r k d high =
      subst (λ z. text_cmp (key z) (key (get_or xs (k + 1) d)) ≡ Less) (get_tail x xs k d)
      (subst (λ z. text_cmp (key (get_or (x ∷ xs) (k + 1) d)) (key z) ≡ Less) (get_tail x xs (k + 1) d) (r (k + 1) d (omega (arith, high))))

  -- where the second is above the first, the first stands once
  after_first : (x : X) (xs : List X) → IsSortedByKey key text_cmp (x ∷ xs) → text_cmp (key (get_or (x ∷ xs) 0 x)) (key (get_or (x ∷ xs) (0 + 1) x)) ≡ Less
      → 0 < length xs → (o : List ℕ) → o ≡ key x → count xs o ≡ 0
  after_first x [] s up pos o e = refl
  after_first x (y ∷ ys) s up pos o e = none_of (y ∷ ys) o (far y ys (tail_sorted x (y ∷ ys) s) o (subst (λ t. text_cmp t (key y) ≡ Less) (sym e) up))

  pub at_most_once : (i : ℕ) (xs : List X) (d : X) → i < length xs → IsSortedByKey key text_cmp xs → Rises xs (i + 1)
      → (o : List ℕ) → text_cmp o (key (get_or xs i d)) ≡ Less → count xs o ≤ 1
  at_most_once i [] d h s r o l = absurd (omega arith)
  at_most_once zero (x ∷ xs) d h s r o l =
      let none : count (x ∷ xs) o ≡ 0 = none_of (x ∷ xs) o (far x xs s o l) in omega (arith, none)
  at_most_once (suc i) (x ∷ xs) d h s r o l =
      let inside : i < length xs = omega (arith, h) in
      let rises : Rises xs (i + 1) = tail_rises x xs (i + 1) (subst (Rises (x ∷ xs)) (omega arith) r) in
      elim (bytes_eq (key x) o) as (λ b. bytes_eq (key x) o ≡ b → count (x ∷ xs) o ≤ 1) [
        | true ↦ λ e.
            let first : key x ≡ o = equal_text (key x) o (text_cmp (key x) o) refl e in
            let none : count xs o ≡ 0 = after_first x xs s (r 0 x (omega arith)) (omega arith) o (sym first) in
            omega (arith, count-cons x xs o, ap (λ b. cond {A = ℕ} b 1 0) e, none)
        | false ↦ λ e.
            omega (arith, count-cons x xs o, ap (λ b. cond {A = ℕ} b 1 0) e, at_most_once i xs d inside (tail_sorted x xs s) rises o l)
      ] refl

  pub stands_twice : (xs : List X) (i : ℕ) (d : X) (n : List ℕ) → i + 1 < length xs
      → bytes_eq (key (get_or xs i d)) n ≡ true → bytes_eq (key (get_or xs (i + 1) d)) n ≡ true → 2 ≤ count xs n
  stands_twice xs i d n h a b =
      omega (
        arith,
        count_by_more_yes (λ d. bytes_eq (key d) n) xs i d (omega (arith, h)) a,
        count_by_more_yes (λ d. bytes_eq (key d) n) xs (i + 1) d h b,
        sum_by-take-drop (λ d. cond (bytes_eq (key d) n) 1 0) xs (i + 1 + 1),
      )

  -- in a list that rises each key stands at most once
  pub rises_once : (xs : List X) → Rises xs (length xs) → (o : List ℕ) → count xs o ≤ 1
  rises_once [] r o = omega arith
  rises_once (x ∷ []) r o =
      elim (bytes_eq (key x) o) as (λ b. bytes_eq (key x) o ≡ b → count (x ∷ []) o ≤ 1) [
        | true ↦ λ e. omega (arith, count-cons x [] o, ap (λ b. cond {A = ℕ} b 1 0) e)
        | false ↦ λ e. omega (arith, count-cons x [] o, ap (λ b. cond {A = ℕ} b 1 0) e)
      ] refl
  rises_once (x ∷ y ∷ ys) r o =
      let later : Rises (y ∷ ys) (length (y ∷ ys)) = tail_rises x (y ∷ ys) (length (y ∷ ys)) (λ k d high. r k d (omega (arith, high))) in
      elim (bytes_eq (key x) o) as (λ b. bytes_eq (key x) o ≡ b → count (x ∷ y ∷ ys) o ≤ 1) [
        | true ↦ λ e.
            let first : key x ≡ o = equal_text (key x) o (text_cmp (key x) o) refl e in
            let none : count (y ∷ ys) o ≡ 0 = after_first x (y ∷ ys) (sorted_from_rises key (x ∷ y ∷ ys) r) (r 0 x (omega arith)) (omega arith) o (sym first) in
            omega (arith, count-cons x (y ∷ ys) o, ap (λ b. cond {A = ℕ} b 1 0) e, none)
        | false ↦ λ e.
            omega (arith, count-cons x (y ∷ ys) o, ap (λ b. cond {A = ℕ} b 1 0) e, rises_once (y ∷ ys) later o)
      ] refl

itself : (a : List ℕ) → bytes_eq a a ≡ true
itself a = sym (is_eq-slice_cmp a a) ∙ ap is_eq (tied_itself nat_list_cmp_total a)

-- the name at the first repeat of the sorted list is the least that stands twice
pub least_twice : (old new seen : List Declaration) (i : ℕ) (name : List ℕ) (e : Declaration) → IsPermutation old new → seen ≡ new
    → IsSortedByKey name_of text_cmp new → FirstRepeat seen i → name ≡ name_of (get_or new i e) → IsLeastTwice old name
least_twice old new seen i name e moved is sorted repeat at =
    let here : FirstRepeat new i = subst (λ l. FirstRepeat l i) is repeat in
    let same : (n : List ℕ) → count name_of new n ≡ count name_of old n = λ n. sum_by-IsPermutation (λ d. cond (bytes_eq (name_of d) n) 1 0) old new moved in
    let first : bytes_eq (name_of (get_or new i e)) name ≡ true = subst (λ n. bytes_eq n name ≡ true) at (itself name) in
    let second : bytes_eq (name_of (get_or new (i + 1) e)) name ≡ true = subst (λ n. bytes_eq n name ≡ true) (here.same e) first in
    record {
      twice = subst (λ n. 2 ≤ n) (same name) (stands_twice name_of new i e name here.inside first second);
      least = λ other below. subst (λ n. n ≤ 1) (same other)
          (at_most_once name_of i new e (omega (arith, here.inside)) sorted here.rises other (subst (λ n. text_cmp other n ≡ Less) at below));
    }

pub name_of-normal : (d : Declaration) → name_of (normal d) ≡ name_of d
name_of-normal (Enum name version flags cases) = refl
name_of-normal (Struct name version fields) = refl
name_of-normal (Delegate name version id invoke) = refl
name_of-normal (Interface name version id owner requires_ members) = refl
name_of-normal (Class name version fixed default has direct factories statics) = refl

-- putting the inner lists in order leaves the names
times-normal : (list : List Declaration) (name : List ℕ) → times (map normal list) name ≡ times list name
times-normal [] name = refl
times-normal (d ∷ list) name =
    count-cons name_of (normal d) (map normal list) name
    ∙ ap (λ n. cond (bytes_eq n name) 1 0 + times (map normal list) name) (name_of-normal d)
    ∙ ap (λ t. cond (bytes_eq (name_of d) name) 1 0 + t) (times-normal list name)
    ∙ sym (count-cons name_of d list name)

pub least_before : (list : List Declaration) (name : List ℕ) → IsLeastTwice (map normal list) name → IsLeastTwice list name
least_before list name least = record {
  twice = subst (λ n. 2 ≤ n) (times-normal list name) least.twice;
  least = λ other below. subst (λ n. n ≤ 1) (times-normal list other) (least.least other below);
}

-- declarations that could be put in strict order had no name twice
pub once_before : (list new : List Declaration) → IsPermutation (map normal list) new → AllAdjacentBelow Precedes new (length new) → IsOnce list
once_before list new moved rises o =
    let same : count name_of new o ≡ count name_of (map normal list) o = sum_by-IsPermutation (λ d. cond (bytes_eq (name_of d) o) 1 0) (map normal list) new moved in
    subst (λ n. n ≤ 1) (times-normal list o) (subst (λ n. n ≤ 1) same (rises_once name_of new rises o))
