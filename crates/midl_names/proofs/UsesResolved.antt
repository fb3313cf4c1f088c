-- Uses within uses as lists.
use Rattle.std.proofs.Common.{◌≡◌, ℕ, List, [], ◌∷◌, Option, refl, ap, sym, ◌∙◌, map}
use Rattle.wr_base.specs.declared.type_use.TypeUse.{TypeUse}
use Rattle.midl_tree.specs.declared.terminal.Terminal.{Terminal}
use Rattle.midl_tree.specs.Trees.{TypeTree, named, types_of}
use Rattle.midl_names.specs.declared.sort.Sort.{Sort}
use Rattle.midl_names.specs.declared.hit.Hit.{Hit}
use Rattle.midl_names.specs.Lookup.{look_up}
use Rattle.midl_names.specs.Uses.{dotted}
use Rattle.midl_names.specs.Resolved.{use_of, resolved, resolved_all}

module _ (known : List ℕ → Option Sort) (space : List (List ℕ)) where
  resolved_flat : (ts : List TypeTree) → resolved_all known space (types_of ts) ≡ map (resolved known space) ts
  resolved_flat [] = refl
  resolved_flat (t ∷ ts) = ap (λ (us : List TypeUse). resolved known space t ∷ us) (resolved_flat ts)

  pub resolved_here : (path path2 : List Terminal) (ts us : List TypeTree) (t : TypeTree) (found : Option Hit) (uses : List TypeUse)
      → t ≡ named path (types_of ts) → us ≡ ts → path2 ≡ path → found ≡ look_up known space (dotted path2) → uses ≡ map (resolved known space) us → use_of found uses ≡ resolved known space t
  resolved_here path path2 ts us t found uses e u p f h =
      ap (λ o. use_of o uses) (f ∙ ap (λ (q : List Terminal). look_up known space (dotted q)) p)
      ∙ ap (use_of (look_up known space (dotted path))) (h ∙ ap (map (resolved known space)) u ∙ sym (resolved_flat ts))
      ∙ ap (resolved known space) (sym e)
