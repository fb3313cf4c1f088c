-- In a list that lacks nothing, what it leads to is what it lists.
use Rattle.std.proofs.Common.{◌≡◌, ℕ, Bool, true, false, not, List, [], ◌∷◌, ◌⊎◌, inl, inr, refl, subst, ◌||◌}
use Rattle.std.specs.List.{list_any}
use Rattle.std.specs.Str.{bytes_eq}
use Rattle.std.specs.Cmp.Lexicographic.{bytes_decides}
use Rattle.wr_base.specs.Uses.{text_of}
use Rattle.wr_base.specs.declared.declaration.Declaration.{Declaration}
use Rattle.wr_base.specs.declared.type_use.TypeUse.{TypeUse}
use Rattle.wr_rules.specs.Closures.{Closed, listed, required, required_at, lists}
use Rattle.wr_rules.specs.ListRules.{lacks}

either_false : (a b : Bool) → (a || b) ≡ false → (a ≡ false) × (b ≡ false)
either_false true b e = cc
either_false false b e = (refl, e)

either_true : (a b : Bool) → (a || b) ≡ true → (a ≡ true) ⊎ (b ≡ true)
either_true true b e = inl refl
either_true false b e = inr e

not_false : (a : Bool) → not a ≡ false → a ≡ true
not_false true e = refl
not_false false e = cc

module _ {X : Type 0} (p : X → Bool) where
  -- where none of a list passes a test, each fails it
  none_passes : (xs : List X) → list_any p xs ≡ false → (q : X → Bool) → list_any q xs ≡ true → (x : X) × (q x ≡ true) × (p x ≡ false)
  none_passes [] e q t = cc
  none_passes (x ∷ xs) e q t =
      let parts = either_false (p x) (list_any p xs) e in
      elim (either_true (q x) (list_any q xs) t) [ inl h ↦ (x, h, parts.0) | inr h ↦ none_passes xs parts.1 q h ]

module _ (types : List Declaration) (list : List TypeUse) (whole : lacks types list ≡ false) where
  -- what an element requires is listed
  one_on : (text next : List ℕ) → lists list text ≡ true → lists (required_at types text) next ≡ true → lists list next ≡ true
  one_on text next here there =
      let u = none_passes (λ u. list_any (λ r. not (lists list (text_of r))) (required_at types (text_of u))) list whole (λ u. bytes_eq (text_of u) text) here in
      let same : text_of u.0 ≡ text = (bytes_decides (text_of u.0) text).0 u.1 in
      let none : list_any (λ r. not (lists list (text_of r))) (required_at types text) ≡ false = subst (λ t. list_any (λ r. not (lists list (text_of r))) (required_at types t) ≡ false) same u.2 in
      let r = none_passes (λ r. not (lists list (text_of r))) (required_at types text) none (λ r. bytes_eq (text_of r) next) there in
      subst (λ t. lists list t ≡ true) ((bytes_decides (text_of r.0) next).0 r.1) (not_false (lists list (text_of r.0)) r.2)

  pub closed_is_listed : (text : List ℕ) → Closed types list text → lists list text ≡ true
  closed_is_listed text (listed h) = h
  closed_is_listed text (required c h) = one_on _ text (closed_is_listed _ c) h
