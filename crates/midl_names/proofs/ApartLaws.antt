-- Where no full name is broken, each stands at one item alone.
use Rattle.std.proofs.Common.{◌≡◌, ℕ, zero, suc, ◌<◌, List, [], ◌∷◌, Option, Some, map, slice_get, ◌⊎◌, inl, inr, ⊎_elim, refl, sym, ap, ◌∙◌, arith}
use Rattle.std.proofs.lemmas.Option.{none-some, same_Some, slice_get_within}
use Rattle.ranked.specs.First.{Clear, Or, Below, At, Only}
use Rattle.wr_base.specs.Lower.{lower}
use Rattle.placed_items.specs.declared.placed.PlacedItem.{PlacedItem}
use Rattle.placed_items.specs.Items.{written_name, written_names, NamesApart}
use Rattle.midl_names.specs.declared.sort.Sort.{Sort}
use Rattle.midl_names.specs.Items.{Item, full_name}
use Rattle.midl_names.specs.Duplicates.{duplicate_entry}
use Rattle.midl_names.specs.Names.{Broken}
use Rattle.midl_names.specs.Declares.{placed_of}
use Rattle.midl_names.proofs.PathLaws.{own_path}

-- an element of a list of values, and what it is the value of
got : {X Y : Type 0} (f : X → Y) (xs : List X) (j : ℕ) (y : Y) → slice_get (map f xs) j ≡ Some y → (x : X) × (slice_get xs j ≡ Some x) × (f x ≡ y)
got f [] j y e = absurd (none-some y e)
got f (x ∷ xs) zero y e = (x, refl, same_Some (f x) y e)
got f (x ∷ xs) (suc j) y e = got f xs j y e

below_or_not : (j k : ℕ) → (j ≡ k) ⊎ (j < k) ⊎ (k < j)
below_or_not zero zero = inl refl
below_or_not zero (suc k) = inr (inl (omega arith))
below_or_not (suc j) zero = inr (inr (omega arith))
below_or_not (suc j) (suc k) = ⊎_elim (λ e. inl (ap suc e)) (⊎_elim (λ l. inr (inl (omega (arith, l)))) (λ l. inr (inr (omega (arith, l))))) (below_or_not j k)

module _ (known : List ℕ → Option Sort) (items : List Item) (clear : Clear (Broken items)) where
  -- an item of an earlier one's full name is broken
  later : (j k : ℕ) (a b : Item) → slice_get items j ≡ Some a → slice_get items k ≡ Some b → full_name a ≡ full_name b → j < k → ⊥
  unfolding Clear Or Below At Only
  later j k a b p q same l =
      clear (duplicate_entry b) (inr (inr (inr (inl (inl (k, slice_get_within items k b q, (b, q, ((j, a, l, p, ap lower same), refl))))))))

  named_at : (j : ℕ) (name : List ℕ) → slice_get (written_names (map (placed_of known) items)) j ≡ Some name → (a : Item) × (slice_get items j ≡ Some a) × (full_name a ≡ name)
  named_at j name e =
      let one = got (λ (p : PlacedItem). written_name p.item) (map (placed_of known) items) j name e in
      let two = got (placed_of known) items j one.0 one.1 in
      (two.0, two.1, sym (own_path known two.0 two.0.tree) ∙ ap (λ (p : PlacedItem). written_name p.item) two.2 ∙ one.2)

  pub names_apart : NamesApart (map (placed_of known) items)
  names_apart j k name p q =
      let a = named_at j name p in
      let b = named_at k name q in
      ⊎_elim (λ e. e)
      (⊎_elim (λ l. absurd (later j k a.0 b.0 a.1 b.1 (a.2 ∙ sym b.2) l)) (λ l. absurd (later k j b.0 a.0 b.1 a.1 (b.2 ∙ sym a.2) l)))
      (below_or_not j k)
