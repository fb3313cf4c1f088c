-- AccessorClash, told by counts of names in lower case.
use Rattle.std.proofs.Common.{◌≡◌, ◌<◌, ◌≤◌, ◌↔◌, ℕ, ◌+◌, Bool, true, false, not, ◌&&◌, ◌||◌, nat_lt, IsTrue, List, Option, Some, Result, IfOk, ◌⊎◌, inl, inr, ⊎_elim, slice_get, count_by, refl, sym, ap, ◌∙◌, arith}
use Rattle.std.specs.List.{list_any}
use Rattle.std.specs.Str.{bytes_eq}
use Rattle.std.proofs.lemmas.Bool.{ltb-true, lt-ltb}
use Rattle.ranked.specs.Entries.{Entry}
use Rattle.ranked.specs.First.{IsFirst, Among, Only}
use Rattle.wr_base.specs.declared.code.Code.TheVariants.{AccessorClash}
use Rattle.wr_base.specs.declared.declaration.Member.{Member}
use Rattle.wr_rules.specs.Sites.{broken_at}
use Rattle.wr_rules.specs.Members.{member_name, abi_names, Standing}
use Rattle.wr_base.specs.Lower.{lower}
use Rattle.wr_rules.specs.MemberRules.{has_name, same_lower, shares_abi, takes_abi, Pair, EachPaired}
use Rattle.wr_rules.proofs.AbiLaws.{with_abi, with_both, named_so, AbiCounts, abi_by_counts}
use Rattle.wr_rules.proofs.ClashLaws.{Holds, one_passes, any_passes}
use Rattle.wr_rules.proofs.CountLaws.{both, both_of, not_true, of_false}
use Rattle.member_counts.proofs.Paired.{paired}
use Rattle.member_counts.proofs.Turned.{turned, alike}
use Rattle.accessor_clash.specs.AbiCounts.{first_abi, second_abi, is_lower, has_lower, is_own, is_shared, clash_by}
use Rattle.accessor_clash.proofs.Pieces.{count_sum, each_counted, own_both}

-- ---- tests

or_left : (a b : Bool) → a ≡ true → (a || b) ≡ true
or_left true b e = refl
or_left false b e = cc

or_right : (a b : Bool) → b ≡ true → (a || b) ≡ true
or_right true b e = refl
or_right false b e = e

either : (a b : Bool) → (a || b) ≡ true → (a ≡ true) ⊎ (b ≡ true)
either true b e = inl refl
either false b e = inr e

-- ---- counts

-- members by their first or their second ABI name
pub abis_counted : (firsts seconds : List ℕ → ℕ) (ms : List (Standing Member)) → ((t : List ℕ) → firsts t ≡ count_by (λ m. bytes_eq (lower (first_abi m.part)) t) ms)
    → ((t : List ℕ) → seconds t ≡ count_by (λ m. is_lower (second_abi m.part) t) ms) → (t : List ℕ) → firsts t + seconds t ≡ count_by (λ m. has_lower (abi_names m.part) t) ms
abis_counted firsts seconds ms f s t =
    ap (λ n. n + seconds t) (f t) ∙ ap (λ n. count_by (λ m. bytes_eq (lower (first_abi m.part)) t) ms + n) (s t)
    ∙ sym (count_sum (λ m. bytes_eq (lower (first_abi m.part)) t) (λ m. is_lower (second_abi m.part) t) (λ m. has_lower (abi_names m.part) t) (λ m. each_counted m.part t) ms)

module _ (ms : List (Standing Member)) (abis names owns : List ℕ → ℕ)
    (abis_are : (t : List ℕ) → abis t ≡ count_by (λ m. has_lower (abi_names m.part) t) ms)
    (names_are : (t : List ℕ) → names t ≡ count_by (λ m. bytes_eq (lower (member_name m.part)) t) ms)
    (owns_are : (t : List ℕ) → owns t ≡ count_by (λ m. is_own m.part && bytes_eq (lower (member_name m.part)) t) ms) where
  abi_is : (n : List ℕ) → abis (lower n) ≡ with_abi n ms
  abi_is n = abis_are (lower n)

  name_is : (n : List ℕ) → names (lower n) ≡ named_so n ms
  name_is n = names_are (lower n) ∙ alike (λ m. bytes_eq (lower (member_name m.part)) (lower n)) (λ m. bytes_eq (lower n) (lower (member_name m.part))) (λ m. turned (lower (member_name m.part)) (lower n)) ms

  own_is : (a : Member) → owns (lower (member_name a)) ≡ with_both a ms
  own_is a =
      owns_are (lower (member_name a))
      ∙ alike (λ m. is_own m.part && bytes_eq (lower (member_name m.part)) (lower (member_name a))) (λ m. has_name (abi_names m.part) (member_name a) && same_lower a m.part) (λ m. own_both a m.part) ms

  module _ (a : Member) where
    abbrev shared : List ℕ → Bool
    shared n = is_shared abis names (lower (member_name a)) (lower n)

    abbrev taken : Bool
    taken = nat_lt (owns (lower (member_name a))) (abis (lower (member_name a)))

    two_have : (n : List ℕ) → 2 ≤ with_abi n ms → shared n ≡ true
    two_have n l =
        or_left (nat_lt 1 (abis (lower n))) (not (bytes_eq (lower n) (lower (member_name a))) && nat_lt 0 (names (lower n)))
        (lt-ltb 1 (abis (lower n)) (let e = abi_is n in omega (arith, e, l)))

    other_named : (n : List ℕ) → bytes_eq (lower n) (lower (member_name a)) ≡ false → 0 < named_so n ms → shared n ≡ true
    other_named n e l =
        or_right (nat_lt 1 (abis (lower n))) (not (bytes_eq (lower n) (lower (member_name a))) && nat_lt 0 (names (lower n)))
        (both_of (not (bytes_eq (lower n) (lower (member_name a)))) (nat_lt 0 (names (lower n))) (of_false (bytes_eq (lower n) (lower (member_name a))) e)
        (lt-ltb 0 (names (lower n)) (let f = name_is n in omega (arith, f, l))))

    to_test : AbiCounts a ms → IsTrue (clash_by abis names owns a)
    to_test c = ⊎_elim
        (λ n. or_left (list_any shared (abi_names a)) taken (any_passes shared (abi_names a) n.0 n.1 (two_have n.0 n.2)))
        (λ d. ⊎_elim
        (λ l. or_right (list_any shared (abi_names a)) taken
        (lt-ltb (owns (lower (member_name a))) (abis (lower (member_name a))) (let e = own_is a in let f = abi_is (member_name a) in omega (arith, e, f, l))))
        (λ n. or_left (list_any shared (abi_names a)) taken (any_passes shared (abi_names a) n.0 n.1 (other_named n.0 n.2 n.3))) d) c

    of_shared : (n : List ℕ) → Holds (abi_names a) n → shared n ≡ true → AbiCounts a ms
    of_shared n h e = ⊎_elim
        (λ l. inl (n, h, (let f = abi_is n in let g = ltb-true 1 (abis (lower n)) l in omega (arith, f, g))))
        (λ d. (let s = both (not (bytes_eq (lower n) (lower (member_name a)))) (nat_lt 0 (names (lower n))) d in
        inr (inr (n, h, not_true (bytes_eq (lower n) (lower (member_name a))) s.0, (let f = name_is n in let g = ltb-true 0 (names (lower n)) s.1 in omega (arith, f, g))))))
        (either (nat_lt 1 (abis (lower n))) (not (bytes_eq (lower n) (lower (member_name a))) && nat_lt 0 (names (lower n))) e)

    of_test : IsTrue (clash_by abis names owns a) → AbiCounts a ms
    of_test e = ⊎_elim
        (λ s. (let n = one_passes shared (abi_names a) s in of_shared n.0 n.1 n.2))
        (λ t. inr (inl (let g = ltb-true (owns (lower (member_name a))) (abis (lower (member_name a))) t in let e = own_is a in let f = abi_is (member_name a) in omega (arith, e, f, g))))
        (either (list_any shared (abi_names a)) taken e)

  told : (i : ℕ) (a : Standing Member) → slice_get ms i ≡ Some a → Pair (λ x y. shares_abi x y || takes_abi x y) ms i a ↔ IsTrue (clash_by abis names owns a.part)
  told i a here = (λ p. to_test a.part ((abi_by_counts ms i a here).0 p), λ t. (abi_by_counts ms i a here).1 (of_test a.part t))

  pub first_clash : {E : Type 0} (r : Result (Option Entry) E) → IfOk r (IsFirst (Among ms (λ a. Only (IsTrue (clash_by abis names owns a.part)) (broken_at AccessorClash a.spot))))
      → IfOk r (IsFirst (EachPaired AccessorClash (λ x y. shares_abi x y || takes_abi x y) ms))
  first_clash r h = paired AccessorClash (λ x y. shares_abi x y || takes_abi x y) ms (λ a. IsTrue (clash_by abis names owns a.part)) told r h

pub as_true : (b t : Bool) → b ≡ t → IsTrue b ↔ IsTrue t
as_true b t e = (λ h. sym e ∙ h, λ h. e ∙ h)
