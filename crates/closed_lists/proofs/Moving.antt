-- Declarations that are moved, each with the list at its index.
use Rattle.std.proofs.Common.{◌≡◌, ◌<◌, ◌+◌, ℕ, List, [], ◌∷◌, ◌++◌, take, length, get_or, refl, sym, ap, subst, ◌∙◌, arith}
use Rattle.std.specs.List.{AllZip}
use Rattle.std.proofs.lemmas.List.{length-map, get_or-map, take_more}
use Rattle.wr_base.specs.declared.type_use.TypeUse.{TypeUse}
use Rattle.wr_base.specs.declared.declaration.Declaration.{Declaration}
use Rattle.wr_rules.specs.Sites.{Site}
use Rattle.closed_lists.specs.Views.{site_view, sites_in}
use Rattle.closed_lists.specs.declared.site.PlacedDeclaration.{PlacedDeclaration}
use Rattle.closed_lists.specs.Closures.{Leads, IsClosing, with_lists}

zip_push : {A B : Type 0} (R : A → B → Type 0) (xs : List A) (ys : List B) (x : A) (y : B) → AllZip R xs ys → R x y → AllZip R (xs ++ x ∷ []) (ys ++ y ∷ [])
zip_push R [] [] x y z r = (r, tt)
zip_push R [] (b ∷ ys) x y z r = absurd z
zip_push R (a ∷ xs) [] x y z r = absurd z
zip_push R (a ∷ xs) (b ∷ ys) x y z r = (z.0, zip_push R xs ys x y z.1 r)

-- one list more
pub leads_turn : (types : List Declaration) (ps : List PlacedDeclaration) (lists more : List (List TypeUse)) (i : ℕ) (p : PlacedDeclaration) (whole : List TypeUse) → i < length ps → p ≡ get_or ps i p → more ≡ lists ++ whole ∷ []
    → AllZip (Leads types) (take i (sites_in ps)) lists → Leads types (site_view p) whole → AllZip (Leads types) (take (i + 1) (sites_in ps)) more
leads_turn types ps lists more i p whole l e n z r =
    let within : i < length (sites_in ps) = let m = length-map ps site_view in omega (arith, m, l) in
    subst (λ ws. AllZip (Leads types) (take (i + 1) (sites_in ps)) ws) (sym n)
    (subst (λ (ss : List Site). AllZip (Leads types) ss (lists ++ whole ∷ [])) (sym (take_more (sites_in ps) i (site_view p) within ∙ ap (λ (s : Site). take i (sites_in ps) ++ s ∷ []) (get_or-map site_view ps i p (site_view p) l ∙ ap site_view (sym e))))
    (zip_push (Leads types) (take i (sites_in ps)) lists (site_view p) whole z r))

-- with what its list leads to, each is closed
pub all_closing : (types : List Declaration) (ss : List Site) (lists : List (List TypeUse)) → AllZip (Leads types) ss lists → AllZip (IsClosing types) ss (with_lists ss lists)
all_closing types [] [] z = tt
all_closing types [] (w ∷ ws) z = absurd z
all_closing types (s ∷ ss) [] z = absurd z
all_closing types (s ∷ ss) (w ∷ ws) z = (record { decl = (w, z.0, refl); places = refl }, all_closing types ss ws z.1)
