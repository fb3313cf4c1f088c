-- From made and closed declarations to the full ones, and from the first clash to the answer.
use Rattle.std.proofs.Common.{◌≡◌, List, [], ◌∷◌, Some, None, map, refl, sym, ap, subst, ◌∙◌}
use Rattle.std.specs.List.{AllZip, IsDistinct}
use Rattle.std.specs.Str.{bytes_eq}
use Rattle.std.proofs.lemmas.Option.{none-some, same_Some}
use Rattle.ranked.specs.Entries.{Entry}
use Rattle.ranked.specs.First.{IsFirst, Clear}
use Rattle.ranked.proofs.FirstLaws.{unique}
use Rattle.wr_base.specs.Declarations.{name_of}
use Rattle.wr_base.specs.declared.declaration.Declaration.{Declaration}
use Rattle.wr_base.specs.declared.declaration.Declaration.TheVariants.{Enum, Struct, Delegate, Interface, Class}
use Rattle.wr_base.specs.declared.places.PlacedTypes.{PlacedTypes}
use Rattle.wr_base.specs.declared.type_use.TypeUse.{TypeUse}
use Rattle.wr_rules.specs.Sites.{Site, site_name}
use Rattle.placed_items.specs.declared.placed.PlacedItem.{PlacedItem}
use Rattle.placed_items.specs.Items.{NamesApart}
use Rattle.closed_lists.specs.Closures.{IsClosing, with_list}
use Rattle.closed_lists.specs.Indexes.{names_in}
use Rattle.closed_lists.specs.Views.{decls_in, sites_in}
use Rattle.closed_lists.specs.declared.site.PlacedDeclaration.{PlacedDeclaration}
use Rattle.made_interfaces.specs.Made.{raw}
use Rattle.class_synthesis.specs.Clashes.{IsClash}
use Rattle.class_synthesis.specs.Full.{IsFull}
use Rattle.class_synthesis.specs.Ordered.{IsOrdered}
use Rattle.class_synthesis.proofs.ApartLaws.{names_apart}

-- another list changes no name
list_name : (whole : List TypeUse) (d : Declaration) → name_of (with_list whole d) ≡ name_of d
list_name whole (Enum name version flags cases) = refl
list_name whole (Struct name version fields) = refl
list_name whole (Delegate name version own invoke) = refl
list_name whole (Interface name version own owner requires_ members) = refl
list_name whole (Class name version fixed default has direct factories statics) = refl

closed_names : (types : List Declaration) (sites closed : List Site) → AllZip (IsClosing types) sites closed → map site_name closed ≡ map site_name sites
closed_names types [] [] h = refl
closed_names types [] (y ∷ ys) h = absurd h
closed_names types (x ∷ xs) [] h = absurd h
closed_names types (x ∷ xs) (y ∷ ys) h =
    ap (λ n. n ∷ map site_name ys) (ap name_of h.0.decl.2 ∙ list_name h.0.decl.0 x.decl) ∙ ap (λ ns. site_name x ∷ ns) (closed_names types xs ys h.1)

names_as : (list : List PlacedDeclaration) → names_in list ≡ map site_name (sites_in list)
names_as [] = refl
names_as (p ∷ ps) = ap (λ ns. name_of p.declaration ∷ ns) (names_as ps)

decls_as : (list : List PlacedDeclaration) → decls_in list ≡ map (λ (s : Site). s.decl) (sites_in list)
decls_as [] = refl
decls_as (p ∷ ps) = ap (λ (ds : List Declaration). p.declaration ∷ ds) (decls_as ps)

module _ (items : List PlacedItem) (sites closed : List PlacedDeclaration) (made : sites_in sites ≡ raw items) (each : AllZip (IsClosing (decls_in sites)) (sites_in sites) (sites_in closed)) where
  of_raw : AllZip (IsClosing (map (λ (s : Site). s.decl) (raw items))) (raw items) (sites_in closed)
  of_raw =
      subst (λ (ss : List Site). AllZip (IsClosing (map (λ (s : Site). s.decl) ss)) ss (sites_in closed)) made
      (subst (λ (ds : List Declaration). AllZip (IsClosing ds) (sites_in sites) (sites_in closed)) (decls_as sites) each)

  pub all_apart : NamesApart items → Clear (IsClash items) → IsDistinct bytes_eq (names_in closed)
  all_apart apart clear =
      subst (IsDistinct bytes_eq) (sym (names_as closed ∙ closed_names (map (λ (s : Site). s.decl) (raw items)) (raw items) (sites_in closed) of_raw)) (names_apart items apart clear)

  pub is_full : (typed : PlacedTypes) → IsOrdered (sites_in closed) typed → IsFull items typed.types typed.places
  is_full typed ordered = record {
    closed = sites_in closed;
    each = of_raw;
    sites = ordered.sites;
    size = ordered.size;
    order = ordered.order;
  }

module _ (items : List PlacedItem) where
  pub cleared : IsFirst (IsClash items) None → Clear (IsClash items)
  unfolding IsFirst Clear
  cleared h = h

  pub none_first : (e : Entry) → IsFirst (IsClash items) None → IsFirst (IsClash items) (Some e) → ⊥
  none_first e h f = none-some e (unique (IsClash items) None (Some e) h f)

  pub one_first : (e x : Entry) → IsFirst (IsClash items) (Some x) → IsFirst (IsClash items) (Some e) → x ≡ e
  one_first e x h f = same_Some x e (unique (IsClash items) (Some x) (Some e) h f)

  pub not_clear : (x : Entry) → IsFirst (IsClash items) (Some x) → Clear (IsClash items) → ⊥
  unfolding IsFirst Clear
  not_clear x h clear = clear x h.stands
