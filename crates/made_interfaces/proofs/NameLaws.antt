-- The names of all declarations of a set are the written ones and those that clashes go by.
use Rattle.std.proofs.Common.{◌≡◌, ℕ, Bool, true, false, List, [], ◌∷◌, ◌++◌, map, refl, ap, ◌∙◌}
use Rattle.std.specs.Prelude.{Option}
use Rattle.std.specs.List.{flat_map}
use Rattle.std.proofs.lemmas.List.{map-append}
use Rattle.wr_base.specs.Declarations.{name_of}
use Rattle.wr_base.specs.declared.places.DeclPlaces.{DeclPlaces}
use Rattle.wr_base.specs.declared.declaration.Declaration.{Declaration}
use Rattle.wr_base.specs.declared.declaration.Declaration.TheVariants.{Enum, Struct, Delegate, Interface, Class}
use Rattle.wr_rules.specs.Sites.{Site, site_name}
use Rattle.placed_items.specs.declared.placed.WrittenClass.{WrittenClass}
use Rattle.placed_items.specs.declared.placed.Written.{Written}
use Rattle.placed_items.specs.declared.placed.Written.TheVariants as written
use Rattle.placed_items.specs.declared.placed.PlacedItem.{PlacedItem}
use Rattle.made_interfaces.specs.Made.{where_, makes_default, makes_statics, makes_factory, default_site, statics_site, factory_site, made_sites, with_id, sites_by, item_sites, names_made, made_by, raw}
use Rattle.placed_items.specs.Items.{written_name}

-- an id changes no name
done_name : (id : Option ℕ) (d : Declaration) → name_of (with_id id d) ≡ name_of d
done_name id (Enum name version flags cases) = refl
done_name id (Struct name version fields) = refl
done_name id (Delegate name version own invoke) = refl
done_name id (Interface name version own owner requires_ members) = refl
done_name id (Class name version fixed default has direct factories statics) = refl

three : (a b d : Bool) (x y z : Site) → map site_name (where_ a x ++ where_ b y ++ where_ d z) ≡ where_ a (site_name x) ++ where_ b (site_name y) ++ where_ d (site_name z)
three true true true x y z = refl
three true true false x y z = refl
three true false true x y z = refl
three true false false x y z = refl
three false true true x y z = refl
three false true false x y z = refl
three false false true x y z = refl
three false false false x y z = refl

-- the interfaces that are made of a class have the names that it makes
made_names : (c : WrittenClass) (p : DeclPlaces) → map site_name (made_sites c p) ≡ names_made c
made_names c p = three (makes_default c) (makes_statics c) (makes_factory c) (default_site c p) (statics_site c p) (factory_site c p)

by_kind : (i : PlacedItem) (w : Written) → map site_name (sites_by i w) ≡ written_name w ∷ made_by w
by_kind i (written.Done d) = ap (λ n. n ∷ []) (done_name i.id d)
by_kind i (written.Class c) = ap (λ ns. c.name ∷ ns) (made_names c i.places)

-- the names of an item, its own first
abbrev pub item_names : PlacedItem → List (List ℕ)
item_names i = written_name i.item ∷ made_by i.item

pub raw_names : (items : List PlacedItem) → map site_name (raw items) ≡ flat_map item_names items
raw_names [] = refl
raw_names (i ∷ is) = map-append site_name (item_sites i) (raw is) ∙ ap (λ t. t ++ map site_name (raw is)) (by_kind i i.item) ∙ ap (λ t. item_names i ++ t) (raw_names is)
