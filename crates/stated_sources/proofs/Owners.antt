-- What files declare has no owner; the interfaces that are made of classes alone have one.
use Rattle.std.proofs.Common.{List, get_or, refl}
use Rattle.std.specs.List.{All}
use Rattle.std.proofs.lemmas.List.Elements.{All-map}
use Rattle.midl_tree.specs.Trees.{DeclTree, enumeration, structure, delegate, interface, class}
use Rattle.midl_names.specs.Declares.{written_by, placed_of, Declares}
use Rattle.midl_names.specs.Items.{Item, Source, items_of}
use Rattle.midl_names.specs.Lookup.{declared_sort}
use Rattle.placed_items.specs.Named.{ArePathed}
use Rattle.placed_items.specs.declared.placed.PlacedItem.{PlacedItem}
use Rattle.class_synthesis.specs.Full.{IsFull}
use Rattle.wr_base.specs.declared.declaration.Declaration.{Declaration}
use Rattle.wr_base.specs.declared.places.DeclPlaces.{DeclPlaces}
use Rattle.writable_sets.specs.Stated.{HasWidths, IsStated}
use Rattle.stated_sources.proofs.Stating.{HasNoOwner, all_stated}

no_owner : (given : List Item) (i : Item) (t : DeclTree) → HasNoOwner (written_by (declared_sort given) i t)
no_owner given i (enumeration e) = refl
no_owner given i (structure s) = refl
no_owner given i (delegate d) = refl
no_owner given i (interface t) = refl
no_owner given i (class c) = tt

none_owned : (sources : List Source) → All (λ (i : PlacedItem). HasNoOwner i.item) (Declares sources)
none_owned sources =
    let items : List Item = items_of sources in
    All-map (λ (i : PlacedItem). HasNoOwner i.item) (placed_of (declared_sort items)) items (λ k d l. no_owner items (get_or items k d) (get_or items k d).tree)

pub sources_stated : (sources : List Source) (types : List Declaration) (places : List DeclPlaces) → ArePathed (Declares sources) → IsFull (Declares sources) types places → All HasWidths types → All (IsStated types) types
sources_stated sources types places pathed full widths = all_stated (Declares sources) types places pathed (none_owned sources) full widths
