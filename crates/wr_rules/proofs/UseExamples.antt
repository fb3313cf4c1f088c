-- Uses that break a rule, and uses that don't.
use Rattle.std.proofs.Common.{◌≡◌, ℕ, true, false, List, [], ◌∷◌, Some, None, refl}
use Rattle.std.specs.Prelude.{codes}
use Rattle.wr_base.specs.declared.type_use.Base.TheVariants.{I32, Text, Object}
use Rattle.wr_base.specs.declared.type_use.TypeUse.TheVariants.{Plain}
use Rattle.wr_base.specs.declared.declaration.Declaration.{Declaration}
use Rattle.wr_base.specs.declared.declaration.Declaration.TheVariants.{Enum, Delegate, Interface, Class}
use Rattle.found_table.specs.Table.{foundation}
use Rattle.wr_base.specs.Trees.{UseTree, plain, value, reference, instance, uses_of}
use Rattle.wr_rules.specs.Kinds.{used, kind_used}
use Rattle.wr_rules.specs.UseRules.{unresolved, wrong_kind, no_field_type, is_bare, owned_elsewhere, is_class_here, refers_to_object, gives_back, has_kind, is_delegate, is_interface}

abbrev color : List ℕ
color = codes "Shop.Color"

abbrev cart : List ℕ
cart = codes "Shop.Cart"

abbrev icart : List ℕ
icart = codes "Shop.ICart"

abbrev done_ : List ℕ
done_ = codes "Shop.Done"

abbrev made : List ℕ
made = codes "Shop.Made"

-- a class without default, an interface of it, and a delegate without and one with an out parameter
abbrev shop_class : Declaration
shop_class = Class cart 1 false None [] false [] []

abbrev shop : List Declaration
shop =
    shop_class ∷ Enum color 1 false [] ∷ Delegate done_ 1 7 (record { params = []; result = None })
    ∷ Interface icart 1 9 (Some cart) [] []
    ∷ Delegate made 1 8 (record { params = record { name = codes "x"; out = true; ty = Plain I32 } ∷ []; result = None }) ∷ []

abbrev optional_of : UseTree → UseTree
optional_of u = instance (foundation (codes "IReference")) (uses_of (u ∷ []))

-- Unresolved: by the exact name, declared or found, and by the number of arguments
known : (unresolved shop (reference cart) ≡ false) × (unresolved shop (value (foundation (codes "DateTime"))) ≡ false) × (unresolved shop (optional_of (plain I32)) ≡ false)
known = (refl, refl, refl)

unknown :
    (unresolved shop (reference (codes "Shop.cart")) ≡ true)
    × (unresolved shop (reference (foundation (codes "IReference"))) ≡ true)
    × (unresolved shop (instance (foundation (codes "IReference")) (uses_of (plain I32 ∷ plain I32 ∷ []))) ≡ true)
    × (unresolved shop (instance cart (uses_of (plain I32 ∷ []))) ≡ true)
unknown = (refl, refl, refl, refl)

-- WrongKind: both ways, of declared and of found types
right_kind : (wrong_kind shop (value color) ≡ false) × (wrong_kind shop (reference cart) ≡ false) × (wrong_kind shop (value (foundation (codes "DateTime"))) ≡ false)
right_kind = (refl, refl, refl)

other_kind : (wrong_kind shop (value cart) ≡ true) × (wrong_kind shop (reference color) ≡ true) × (wrong_kind shop (reference (foundation (codes "DateTime"))) ≡ true)
other_kind = (refl, refl, refl)

-- FieldType: the kind of the declaration counts, not that of the use
field_types : (no_field_type shop (plain Text) ≡ false) × (no_field_type shop (value color) ≡ false) × (no_field_type shop (reference color) ≡ false)
field_types = (refl, refl, refl)

no_field_types : (no_field_type shop (plain Object) ≡ true) × (no_field_type shop (reference cart) ≡ true) × (no_field_type shop (optional_of (plain I32)) ≡ true)
no_field_types = (refl, refl, refl)

-- UseKind: a class without default alone
bare : (is_bare shop (reference cart) ≡ true) × (is_bare shop (reference icart) ≡ false) × (is_bare shop (value color) ≡ false)
bare = (refl, refl, refl)

-- ExclusiveUse: in the lists of its owner, and nowhere else
exclusive :
    (owned_elsewhere shop (λ owner. is_class_here shop shop_class owner) (used shop (reference icart)) ≡ false)
    × (owned_elsewhere shop (λ owner. false) (used shop (reference icart)) ≡ true)
    × (owned_elsewhere shop (λ owner. is_class_here shop (Class made 1 false None [] false [] []) owner) (used shop (reference icart)) ≡ true)
    × (owned_elsewhere shop (λ owner. false) (used shop (reference cart)) ≡ false)
exclusive = (refl, refl, refl, refl)

-- ReferenceArgument: an instance is the interface that it is of; other templates take what they like
boxed :
    (refers_to_object shop (optional_of (plain Object)) ≡ true)
    × (refers_to_object shop (optional_of (reference cart)) ≡ true)
    × (refers_to_object shop (optional_of (optional_of (plain I32))) ≡ true)
    × (refers_to_object shop (optional_of (value color)) ≡ false)
    × (refers_to_object shop (instance (foundation (codes "EventHandler")) (uses_of (plain Object ∷ []))) ≡ false)
boxed = (refl, refl, refl, refl, refl)

-- EventType, EventDelegate, InterfaceWanted
events :
    (has_kind is_delegate (kind_used shop (reference done_)) ≡ true)
    × (has_kind is_delegate (kind_used shop (reference icart)) ≡ false)
    × (gives_back shop (used shop (reference done_)) ≡ false)
    × (gives_back shop (used shop (reference made)) ≡ true)
    × (has_kind is_interface (kind_used shop (reference icart)) ≡ true)
    × (has_kind is_interface (kind_used shop (reference cart)) ≡ false)
    × (has_kind is_interface (kind_used shop (optional_of (plain I32))) ≡ true)
events = (refl, refl, refl, refl, refl, refl, refl)
