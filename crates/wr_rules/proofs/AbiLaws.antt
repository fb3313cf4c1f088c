-- AccessorClash by counts of names.
use Rattle.std.proofs.Common.{◌≡◌, ◌≢◌, ◌<◌, ◌≤◌, ◌↔◌, ℕ, Bool, true, false, not, ◌&&◌, ◌||◌, List, Some, ◌⊎◌, inl, inr, ⊎_elim, slice_get, count_by, refl, sym, ap, ◌∙◌, true≢false}
use Rattle.std.proofs.lemmas.Option.{same_Some}
use Rattle.std.specs.Str.{bytes_eq}
use Rattle.std.specs.Cmp.Lexicographic.{bytes_decides}
use Rattle.wr_base.specs.declared.declaration.Member.{Member}
use Rattle.wr_rules.specs.Members.{member_name, abi_names, Standing}
use Rattle.wr_base.specs.Lower.{lower}
use Rattle.wr_rules.specs.MemberRules.{has_name, same_lower, shares_abi, takes_abi, Pair}
use Rattle.wr_rules.proofs.ClashLaws.{Holds, one_passes, any_passes}
use Rattle.wr_rules.proofs.CountLaws.{one_of, of_one, another, of_two, one_apart, apart_more, both, both_of, not_true, of_false, tells}

-- how many members have this ABI name, and how many of them also this name, or just this name
abbrev pub with_abi : List ℕ → List (Standing Member) → ℕ
with_abi n ms = count_by (λ m. has_name (abi_names m.part) n) ms

abbrev pub with_both : Member → List (Standing Member) → ℕ
with_both a ms = count_by (λ m. has_name (abi_names m.part) (member_name a) && same_lower a m.part) ms

abbrev pub named_so : List ℕ → List (Standing Member) → ℕ
named_so n ms = count_by (λ m. bytes_eq (lower n) (lower (member_name m.part))) ms

-- an ABI name of a that two members have; a's name as the ABI name of a member of another name; an ABI name of a that is the name of a member of another name
abbrev pub AbiCounts : Member → List (Standing Member) → Type 0
AbiCounts a ms =
    ((n : List ℕ) × Holds (abi_names a) n × (2 ≤ with_abi n ms))
    ⊎ (with_both a ms < with_abi (member_name a) ms)
    ⊎ ((n : List ℕ) × Holds (abi_names a) n × (bytes_eq (lower n) (lower (member_name a)) ≡ false) × (0 < named_so n ms))

or_either : (a b : Bool) → (a || b) ≡ true → (a ≡ true) ⊎ (b ≡ true)
or_either true b e = inl refl
or_either false b e = inr e

or_left : (a b : Bool) → a ≡ true → (a || b) ≡ true
or_left true b e = refl
or_left false b e = cc

or_right : (a b : Bool) → b ≡ true → (a || b) ≡ true
or_right true b e = refl
or_right false b e = e

has_it : (names : List (List ℕ)) (n : List ℕ) → Holds names n → has_name names n ≡ true
has_it names n h = any_passes (λ x. bytes_eq (lower x) (lower n)) names n h ((bytes_decides (lower n) (lower n)).1 refl)

module _ (ms : List (Standing Member)) (i : ℕ) (a : Standing Member) (here : slice_get ms i ≡ Some a) where
  lower_itself : same_lower a.part a.part ≡ true
  lower_itself = (bytes_decides (lower (member_name a.part)) (lower (member_name a.part))).1 refl

  other_place : (j : ℕ) (b : Standing Member) → slice_get ms j ≡ Some b → same_lower a.part b.part ≡ false → i ≢ j
  other_place j b at e q = true≢false (sym lower_itself ∙ ap (λ (m : Standing Member). same_lower a.part m.part) (same_Some a b (sym here ∙ (ap (slice_get ms) q ∙ at))) ∙ e)

  to_counts : Pair (λ x y. shares_abi x y || takes_abi x y) ms i a → AbiCounts a.part ms
  to_counts p = ⊎_elim
      (λ s. (let n = one_passes (has_name (abi_names p.b.part)) (abi_names a.part) s in
      inl (n.0, n.1, of_two (λ m. has_name (abi_names m.part) n.0) ms i p.j a p.b p.apart here (has_it (abi_names a.part) n.0 n.1) p.at n.2)))
      (λ t. (let x = both (not (same_lower a.part p.b.part)) (has_name (abi_names p.b.part) (member_name a.part) || has_name (abi_names a.part) (member_name p.b.part)) t in
      let other = not_true (same_lower a.part p.b.part) x.0 in
      ⊎_elim
      (λ y. inr (inl (apart_more (λ m. has_name (abi_names m.part) (member_name a.part)) (λ m. has_name (abi_names m.part) (member_name a.part) && same_lower a.part m.part)
      (λ m e. (both (has_name (abi_names m.part) (member_name a.part)) (same_lower a.part m.part) e).0) ms p.j p.b p.at y
      (ap (λ b. b && same_lower a.part p.b.part) y ∙ other))))
      (λ y. (let n = one_passes (λ z. bytes_eq (lower z) (lower (member_name p.b.part))) (abi_names a.part) y in
      let same : lower n.0 ≡ lower (member_name p.b.part) = (bytes_decides (lower n.0) (lower (member_name p.b.part))).0 n.2 in
      inr (inr (
        n.0,
        n.1,
        ⊎_elim (λ e. absurd (true≢false (sym ((bytes_decides (lower (member_name a.part)) (lower (member_name p.b.part))).1 (sym ((bytes_decides (lower n.0) (lower (member_name a.part))).0 e) ∙ same)) ∙ other))) (λ e. e) (tells (bytes_eq (lower n.0) (lower (member_name a.part)))),
        of_one (λ m. bytes_eq (lower n.0) (lower (member_name m.part))) ms p.j p.b p.at n.2,
      ))))
      (or_either (has_name (abi_names p.b.part) (member_name a.part)) (has_name (abi_names a.part) (member_name p.b.part)) x.1)))
      (or_either (shares_abi a.part p.b.part) (takes_abi a.part p.b.part) p.so)

  from_counts : AbiCounts a.part ms → Pair (λ x y. shares_abi x y || takes_abi x y) ms i a
  from_counts c = ⊎_elim
      (λ n. (let r = another (λ m. has_name (abi_names m.part) n.0) ms i n.2 in
      record { j = r.0; b = r.1; at = r.3; apart = r.2; so = or_left (shares_abi a.part r.1.part) (takes_abi a.part r.1.part) (any_passes (has_name (abi_names r.1.part)) (abi_names a.part) n.0 n.1 r.4) }))
      (λ d. ⊎_elim
      (λ l. (let r = one_apart (λ m. has_name (abi_names m.part) (member_name a.part)) (λ m. has_name (abi_names m.part) (member_name a.part) && same_lower a.part m.part)
      (λ m e. (both (has_name (abi_names m.part) (member_name a.part)) (same_lower a.part m.part) e).0) ms l in
      let other : same_lower a.part r.1.part ≡ false = ap (λ b. b && same_lower a.part r.1.part) (sym r.3) ∙ r.4 in
      record {
        j = r.0;
        b = r.1;
        at = r.2;
        apart = other_place r.0 r.1 r.2 other;
        so = or_right (shares_abi a.part r.1.part) (takes_abi a.part r.1.part)
            (both_of (not (same_lower a.part r.1.part)) (has_name (abi_names r.1.part) (member_name a.part) || has_name (abi_names a.part) (member_name r.1.part)) (of_false (same_lower a.part r.1.part) other)
            (or_left (has_name (abi_names r.1.part) (member_name a.part)) (has_name (abi_names a.part) (member_name r.1.part)) r.3));
      }))
      (λ n. (let r = one_of (λ m. bytes_eq (lower n.0) (lower (member_name m.part))) ms n.3 in
      let same : lower n.0 ≡ lower (member_name r.1.part) = (bytes_decides (lower n.0) (lower (member_name r.1.part))).0 r.3 in
      let other : same_lower a.part r.1.part ≡ false =
      ⊎_elim (λ e. absurd (true≢false (sym ((bytes_decides (lower n.0) (lower (member_name a.part))).1 (same ∙ sym ((bytes_decides (lower (member_name a.part)) (lower (member_name r.1.part))).0 e))) ∙ n.2))) (λ e. e) (tells (same_lower a.part r.1.part)) in
      record {
        j = r.0;
        b = r.1;
        at = r.2;
        apart = other_place r.0 r.1 r.2 other;
        so = or_right (shares_abi a.part r.1.part) (takes_abi a.part r.1.part)
            (both_of (not (same_lower a.part r.1.part)) (has_name (abi_names r.1.part) (member_name a.part) || has_name (abi_names a.part) (member_name r.1.part)) (of_false (same_lower a.part r.1.part) other)
            (or_right (has_name (abi_names r.1.part) (member_name a.part)) (has_name (abi_names a.part) (member_name r.1.part))
            (any_passes (λ z. bytes_eq (lower z) (lower (member_name r.1.part))) (abi_names a.part) n.0 n.1 r.3)));
      })) d) c

  pub abi_by_counts : Pair (λ x y. shares_abi x y || takes_abi x y) ms i a ↔ AbiCounts a.part ms
  abi_by_counts = (λ p. to_counts p, λ c. from_counts c)
