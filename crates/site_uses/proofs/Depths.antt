-- Questions on a use and the uses within it, use by use.
use Rattle.std.proofs.Common.{◌≡◌, ◌||◌, ◌+◌, ◌<◌, ℕ, Bool, true, false, List, [], ◌∷◌, ◌++◌, map, take, length, get_or, refl, sym, ap, ◌∙◌}
use Rattle.std.specs.List.{list_any}
use Rattle.std.proofs.lemmas.List.{take_more}
use Rattle.std.proofs.lemmas.List.Folds.{list_any-append}
use Rattle.wr_base.specs.declared.type_use.TypeUse.{TypeUse}
use Rattle.wr_base.specs.declared.type_use.TypeUse.TheVariants.{Inst}
use Rattle.wr_base.specs.Trees.{UseTree, instance, tree_of, uses_of, within, among}
use Rattle.wr_base.proofs.TreeLaws.{tree_Inst}

pub or_assoc : (a b c : Bool) → ((a || b) || c) ≡ (a || (b || c))
or_assoc true b c = refl
or_assoc false b c = refl

or_false : (a : Bool) → (a || false) ≡ a
or_false true = refl
or_false false = refl

module _ (test : UseTree → Bool) where
  -- among some uses
  abbrev pub any_of : List TypeUse → Bool
  any_of uses = list_any test (among (uses_of (map tree_of uses)))

  any_cons : (u : TypeUse) (us : List TypeUse) → any_of (u ∷ us) ≡ (list_any test (within (tree_of u)) || any_of us)
  any_cons u us = list_any-append test (within (tree_of u)) (among (uses_of (map tree_of us)))

  any_append : (us vs : List TypeUse) → any_of (us ++ vs) ≡ (any_of us || any_of vs)
  any_append [] vs = refl
  any_append (u ∷ us) vs =
      any_cons u (us ++ vs) ∙ ap (λ b. list_any test (within (tree_of u)) || b) (any_append us vs) ∙ sym (or_assoc (list_any test (within (tree_of u))) (any_of us) (any_of vs))
      ∙ ap (λ b. b || any_of vs) (sym (any_cons u us))

  -- one more of the first ones
  pub any_more : (us : List TypeUse) (i : ℕ) (u : TypeUse) → i < length us → u ≡ get_or us i u → any_of (take (i + 1) us) ≡ (any_of (take i us) || list_any test (within (tree_of u)))
  any_more us i u l e =
      ap any_of (take_more us i u l ∙ ap (λ (v : TypeUse). take i us ++ v ∷ []) (sym e)) ∙ any_append (take i us) (u ∷ [])
      ∙ ap (λ b. any_of (take i us) || b) (any_cons u [] ∙ or_false (list_any test (within (tree_of u))))

  -- an instance, then what is within it
  pub any_instance : (u : TypeUse) (name : List ℕ) (arguments : List TypeUse) → u ≡ Inst name arguments → list_any test (within (tree_of u)) ≡ (test (tree_of u) || any_of arguments)
  any_instance u name arguments e =
      ap (λ t. list_any test (within t)) tree ∙ ap (λ t. test t || any_of arguments) (sym tree)
    where
      tree : tree_of u ≡ instance name (uses_of (map tree_of arguments))
      tree = ap tree_of e ∙ tree_Inst name arguments
