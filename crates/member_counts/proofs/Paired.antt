-- A rule on pairs, by a fact on each member.
use Rattle.std.proofs.Common.{◌≡◌, ◌<◌, ◌↔◌, ℕ, Bool, true, false, not, ◌&&◌, IsTrue, List, Option, Some, Result, IfOk, slice_get, count_by, refl, sym, subst, ◌∙◌}
use Rattle.std.specs.Str.{bytes_eq}
use Rattle.ranked.specs.Entries.{Entry}
use Rattle.ranked.specs.First.{IsFirst, Among, Below, At, Only}
use Rattle.ranked.proofs.FirstLaws.{within_ok, leaf}
use Rattle.wr_base.specs.declared.code.Code.{Code}
use Rattle.wr_base.specs.declared.code.Code.TheVariants.{MemberCase, OverloadKind}
use Rattle.wr_base.specs.declared.declaration.Member.{Member}
use Rattle.placed_sites.specs.Views.{give}
use Rattle.wr_rules.specs.Sites.{Spot, broken_at}
use Rattle.wr_rules.specs.Members.{member_name, Standing}
use Rattle.wr_base.specs.Lower.{lower}
use Rattle.wr_rules.specs.MemberRules.{Pair, EachPaired, is_method, mixes, differs_in_case}
use Rattle.wr_rules.proofs.CountLaws.{with_name, with_lower, others_with_name, case_by_counts, KindCounts, kind_by_counts}
use Rattle.member_counts.specs.Tallies.{Mixed}
use Rattle.member_counts.proofs.Turned.{turned, alike}

module _ (code : Code) (test : Member → Member → Bool) (ms : List (Standing Member)) (fact : Standing Member → Type 0)
    (told : (i : ℕ) (a : Standing Member) → slice_get ms i ≡ Some a → Pair test ms i a ↔ fact a) where
  to : (e : Entry) → Among ms (λ a. Only (fact a) (broken_at code a.spot)) e → EachPaired code test ms e
  unfolding Below At Only
  to e h = (h.0, h.1, (h.2.0, h.2.1, ((told h.0 h.2.0 h.2.1).1 h.2.2.0, h.2.2.1)))

  from : (e : Entry) → EachPaired code test ms e → Among ms (λ a. Only (fact a) (broken_at code a.spot)) e
  unfolding Below At Only
  from e h = (h.0, h.1, (h.2.0, h.2.1, ((told h.0 h.2.0 h.2.1).0 h.2.2.0, h.2.2.1)))

  pub paired : {E : Type 0} (r : Result (Option Entry) E) → IfOk r (IsFirst (Among ms (λ a. Only (fact a) (broken_at code a.spot)))) → IfOk r (IsFirst (EachPaired code test ms))
  paired r h = within_ok r (Among ms (λ a. Only (fact a) (broken_at code a.spot))) (EachPaired code test ms) to from h

-- one member by a test
pub tested : {E : Type 0} (r : Result (Option Entry) E) (fact : Member → Type 0) (code : Code) (b : Bool) (m n : Member) (s t : Spot) → m ≡ n → s ≡ t → (IsTrue b ↔ fact m)
    → IfOk r (λ o. o ≡ give b (broken_at code s)) → IfOk r (IsFirst (Only (fact n) (broken_at code t)))
tested r fact code b m n s t e f w h =
    subst (λ (x : Member). IfOk r (IsFirst (Only (fact x) (broken_at code t)))) e
    (subst (λ (x : Spot). IfOk r (IsFirst (Only (fact m) (broken_at code x)))) f (leaf r (fact m) (broken_at code s) b w h))

-- ---- counts

module _ (ms : List (Standing Member)) where
  pub named : (tally : List ℕ → ℕ) → ((text : List ℕ) → tally text ≡ count_by (λ m. bytes_eq (member_name m.part) text) ms) → (a : Member) → tally (member_name a) ≡ with_name a ms
  named tally e a =
      e (member_name a)
      ∙ alike (λ m. bytes_eq (member_name m.part) (member_name a)) (λ m. bytes_eq (member_name a) (member_name m.part)) (λ m. turned (member_name m.part) (member_name a)) ms

  pub folded : (tally : List ℕ → ℕ) → ((text : List ℕ) → tally text ≡ count_by (λ m. bytes_eq (lower (member_name m.part)) text) ms) → (a : Member) → tally (lower (member_name a)) ≡ with_lower a ms
  folded tally e a =
      e (lower (member_name a))
      ∙ alike (λ m. bytes_eq (lower (member_name m.part)) (lower (member_name a))) (λ m. bytes_eq (lower (member_name a)) (lower (member_name m.part)))
      (λ m. turned (lower (member_name m.part)) (lower (member_name a))) ms

  swapped : (p q r : Bool) → p ≡ r → (q && p) ≡ (r && q)
  swapped true true true e = refl
  swapped true false true e = refl
  swapped false true false e = refl
  swapped false false false e = refl
  swapped true q false e = cc
  swapped false q true e = cc

  pub others : (tally : List ℕ → ℕ) → ((text : List ℕ) → tally text ≡ count_by (λ m. not (is_method m.part) && bytes_eq (member_name m.part) text) ms) → (a : Member)
      → tally (member_name a) ≡ others_with_name a ms
  others tally e a =
      e (member_name a)
      ∙ alike (λ m. not (is_method m.part) && bytes_eq (member_name m.part) (member_name a)) (λ m. bytes_eq (member_name a) (member_name m.part) && not (is_method m.part))
      (λ m. swapped (bytes_eq (member_name m.part) (member_name a)) (not (is_method m.part)) (bytes_eq (member_name a) (member_name m.part)) (turned (member_name m.part) (member_name a))) ms

  module _ (exact : List ℕ → ℕ) (names : (text : List ℕ) → exact text ≡ count_by (λ m. bytes_eq (member_name m.part) text) ms) where
    module _ (lowers : List ℕ → ℕ) (kept : (text : List ℕ) → lowers text ≡ count_by (λ m. bytes_eq (lower (member_name m.part)) text) ms) where
      case_told : (i : ℕ) (a : Standing Member) → slice_get ms i ≡ Some a → Pair differs_in_case ms i a ↔ (exact (member_name a.part) < lowers (lower (member_name a.part)))
      case_told i a here =
          subst (λ n. Pair differs_in_case ms i a ↔ (n < lowers (lower (member_name a.part)))) (sym (named exact names a.part))
          (subst (λ n. Pair differs_in_case ms i a ↔ (with_name a.part ms < n)) (sym (folded lowers kept a.part)) (case_by_counts ms i a here))

      pub first_case : {E : Type 0} (r : Result (Option Entry) E)
          → IfOk r (IsFirst (Among ms (λ a. Only (exact (member_name a.part) < lowers (lower (member_name a.part))) (broken_at MemberCase a.spot)))) → IfOk r (IsFirst (EachPaired MemberCase differs_in_case ms))
      first_case r h = paired MemberCase differs_in_case ms (λ a. exact (member_name a.part) < lowers (lower (member_name a.part))) case_told r h

    module _ (rest : List ℕ → ℕ) (kept : (text : List ℕ) → rest text ≡ count_by (λ m. not (is_method m.part) && bytes_eq (member_name m.part) text) ms) where
      as_mixed : (i : ℕ) (a : Standing Member) (here : slice_get ms i ≡ Some a) (m : Bool) (o n : ℕ) → KindCounts ms i a here m o n → Mixed m o n
      as_mixed i a here true o n h = h
      as_mixed i a here false o n h = h

      of_mixed : (i : ℕ) (a : Standing Member) (here : slice_get ms i ≡ Some a) (m : Bool) (o n : ℕ) → Mixed m o n → KindCounts ms i a here m o n
      of_mixed i a here true o n h = h
      of_mixed i a here false o n h = h

      by_counts : (i : ℕ) (a : Standing Member) → slice_get ms i ≡ Some a → Pair mixes ms i a ↔ Mixed (is_method a.part) (others_with_name a.part ms) (with_name a.part ms)
      by_counts i a here = (
        λ p. as_mixed i a here (is_method a.part) (others_with_name a.part ms) (with_name a.part ms) ((kind_by_counts ms i a here).0 p),
        λ h. (kind_by_counts ms i a here).1 (of_mixed i a here (is_method a.part) (others_with_name a.part ms) (with_name a.part ms) h),
      )

      kind_told : (i : ℕ) (a : Standing Member) → slice_get ms i ≡ Some a → Pair mixes ms i a ↔ Mixed (is_method a.part) (rest (member_name a.part)) (exact (member_name a.part))
      kind_told i a here =
          subst (λ n. Pair mixes ms i a ↔ Mixed (is_method a.part) n (exact (member_name a.part))) (sym (others rest kept a.part))
          (subst (λ n. Pair mixes ms i a ↔ Mixed (is_method a.part) (others_with_name a.part ms) n) (sym (named exact names a.part)) (by_counts i a here))

      pub first_kind : {E : Type 0} (r : Result (Option Entry) E)
          → IfOk r (IsFirst (Among ms (λ a. Only (Mixed (is_method a.part) (rest (member_name a.part)) (exact (member_name a.part))) (broken_at OverloadKind a.spot))))
          → IfOk r (IsFirst (EachPaired OverloadKind mixes ms))
      first_kind r h = paired OverloadKind mixes ms (λ a. Mixed (is_method a.part) (rest (member_name a.part)) (exact (member_name a.part))) kind_told r h
