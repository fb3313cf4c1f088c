-- The image of a set of delegates, classes, interfaces and an enum with some of its bytes written over, and what it then states. The set is in
-- `winmd_sets`; offsets and answers were worked out by hand from the tables of ECMA-335 II.22.
use Rattle.std.specs.Prelude.{ℕ, Bool, true, false, List, [], ◌∷◌, ◌++◌, codes, take, drop, pos, negsuc, Option, Some, None, Result, Ok}
use Rattle.md_schema.specs.declared.faults.ImageKind.TheVariants as kinds
use Rattle.wr_base.specs.declared.declaration.Case.{Case}
use Rattle.wr_base.specs.declared.type_use.Base.TheVariants as bases
use Rattle.wr_base.specs.Trees.{UseTree, plain, reference, method, property, DeclTree, enum, interface, class}
use Rattle.winmd_rows.specs.Faults.{Fault, fault}
use Rattle.winmd_sets.specs.Shop.{shop, shop_image, case_of, param_of}
use Rattle.winmd_examples.specs.Edits.{Edited, byte, cell, found_in}

abbrev pub found : Edited → Result (List DeclTree) Fault
found e = found_in shop_image e

-- one declaration of the set in place of another
abbrev pub with_first : DeclTree → List DeclTree
with_first d = d ∷ drop 1 shop

abbrev pub with_bell : DeclTree → List DeclTree
with_bell d = take 1 shop ++ d ∷ drop 2 shop

abbrev pub with_factory : DeclTree → List DeclTree
with_factory d = take 5 shop ++ d ∷ drop 6 shop

abbrev pub with_box : DeclTree → List DeclTree
with_box d = take 6 shop ++ d ∷ drop 7 shop

abbrev pub with_size : Bool → List Case → List DeclTree
with_size flags cases = take 9 shop ++ enum (codes "Shop.Size") 1 flags cases ∷ []

-- ---- the delegate Shop.Added: row 2 of TypeDef at 0x372, its Invoke at 0x424, the signature of Invoke at 0x8D6

abbrev pub delegates : List Edited
delegates =
    ([], Ok shop) ∷
    -- Without the flag 0x4000; it extends System.Object, and is a class; it extends System.Type, and nothing.
    (byte 0x373 1, Ok (drop 1 shop)) ∷
    (cell 0x37A 0x0D, Ok (with_first (class (codes "Shop.Added") 1 false None [] false [] []))) ∷
    (cell 0x37A 0x11, fault kinds.BadShape 0x37A) ∷
    (cell 0x37A 0, fault kinds.RowRange 0x37A) ∷
    -- No method named Invoke; two.
    (cell 0x42C 0x160, fault kinds.BadShape 0x37E) ∷
    (cell 0x41E 0x159, fault kinds.BadShape 0x37E) ∷
    -- In place of its Guid it has another attribute; a second version; a Guid of another prolog.
    (cell 0x556 0x1B, fault kinds.MissingAttribute 0x372) ∷
    (cell 0x556 0x3B, fault kinds.BadShape 0x372) ∷
    (byte 0x948 2, fault kinds.BadShape 0x558) ∷
    -- Its parameter is the second; has no name.
    (cell 0x4CE 2, fault kinds.BadShape 0x430) ∷
    (cell 0x4D0 0, fault kinds.BadShape 0x4D0) ∷
    -- The signature: a parameter of ELEMENT_TYPE_R4, and of no type; another convention; a byte less, and one more; past the heap; a length of no form.
    (byte 0x8DA 0x0C, fault kinds.FloatType 0x42E) ∷
    (byte 0x8DA 0x01, fault kinds.SigElement 0x42E) ∷
    (byte 0x8D7 0x00, fault kinds.SigElement 0x42E) ∷
    (byte 0x8D6 3, fault kinds.SigShort 0x42E) ∷
    (byte 0x8D6 5, fault kinds.SigTail 0x42E) ∷
    (cell 0x42E 0x180, fault kinds.HeapRange 0x42E) ∷
    (byte 0x8D6 0xE0, fault kinds.BadLead 0x42E) ∷
    []

-- ---- classes: Shop.Bell is row 3 of TypeDef at 0x380, its interface row 1 of InterfaceImpl at 0x502

abbrev pub bell : List ℕ → Bool → List ℕ → DeclTree
bell name direct factory = class name 1 false (Some (reference (codes "Shop.IBell"))) (reference (codes "Shop.IBell") ∷ []) direct (factory ∷ []) []

-- Shop.Bell with another default and another interface
abbrev pub bell_of : Bool → Option UseTree → UseTree → DeclTree
bell_of fixed default interface_ = class (codes "Shop.Bell") 1 fixed default (interface_ ∷ []) true (codes "Shop.IBellFactory" ∷ []) []

abbrev pub event_token : UseTree
event_token = reference (codes "Windows.Foundation.EventRegistrationToken")

-- the class whose name is changed, which comes last, and the interface that names it
abbrev pub renamed : List DeclTree
renamed =
    take 1 shop ++ take 3 (drop 2 shop)
    ++ interface (codes "Shop.IBellFactory") 1 41669262292712042167465765435967788454 (Some (codes "Shop.Bell")) []
    (method (codes "CreateInstance") (codes "CreateInstance") (record { params = param_of (codes "why") false (plain bases.Text) ∷ []; result = Some (reference (codes "Shop.Zell")) }) ∷ [])
    ∷ drop 6 shop ++ bell (codes "Shop.Zell") true (codes "Shop.IBellFactory") ∷ []

abbrev pub classes : List Edited
classes =
    -- No default; two of Shop.Box.
    (cell 0x550 0x33, Ok (with_bell (bell_of false None (reference (codes "Shop.IBell"))))) ∷
    (cell 0x58A 0x45, fault kinds.BadShape 0x38E) ∷
    -- The flag 0x80.
    (byte 0x380 0x81, Ok (with_bell (bell_of true (Some (reference (codes "Shop.IBell"))) (reference (codes "Shop.IBell"))))) ∷
    -- Its attribute without a factory stands on `<Module>`; that constructor has no parameters, and one of another type.
    (cell 0x566 0x23, Ok (with_bell (bell (codes "Shop.Bell") false (codes "Shop.IBellFactory")))) ∷
    (cell 0x516 0x13, fault kinds.BadShape 0x516) ∷
    (cell 0x516 0x21, fault kinds.BadShape 0x516) ∷
    -- The name of the factory: no path; it ends at a comma.
    (byte 0x969 0x31, fault kinds.BadShape 0x570) ∷
    (byte 0x973 0x2C, Ok (with_bell (bell (codes "Shop.Bell") true (codes "Shop.IBell")))) ∷
    -- The interface: a type of another image; none; tag 3; row 1 of TypeSpec, and row 12 of TypeDef, which aren't there; `<Module>`.
    (cell 0x504 0x15, Ok (with_bell (bell_of false (Some event_token) event_token))) ∷
    (cell 0x504 0, fault kinds.RowRange 0x504) ∷
    (cell 0x504 3, fault kinds.BadTag 0x504) ∷
    (cell 0x504 6, fault kinds.RowRange 0x504) ∷
    (cell 0x504 0x30, fault kinds.RowRange 0x504) ∷
    (cell 0x504 4, fault kinds.BadShape 0x504) ∷
    -- The constructor of an attribute: past the table, and of no table.
    (cell 0x562 0x43, fault kinds.RowRange 0x562) ∷
    (cell 0x562 8, fault kinds.BadTag 0x562) ∷
    -- Its name: that of Shop.Box; no identifier; one that comes last.
    (cell 0x384 0x100, fault kinds.BadShape 0x384) ∷
    (byte 0x783 0x31, fault kinds.BadShape 0x384) ∷
    (byte 0x783 0x5A, Ok renamed) ∷
    []

-- ---- interfaces: rows 6 to 10 of TypeDef

abbrev pub factory_of_none : DeclTree
factory_of_none =
    interface (codes "Shop.IBellFactory") 1 41669262292712042167465765435967788454 None []
    (method (codes "CreateInstance") (codes "CreateInstance") (record { params = param_of (codes "why") false (plain bases.Text) ∷ []; result = Some (reference (codes "Shop.Bell")) }) ∷ [])

-- the setter is a method by itself
abbrev pub box_of_two : DeclTree
box_of_two =
    interface (codes "Shop.IBox") 1 69851946919265190440614725144780210251 (Some (codes "Shop.Box")) []
    (property (codes "Held") (plain bases.Object) false
    ∷ method (codes "put_Held") (codes "put_Held") (record { params = param_of (codes "value") false (plain bases.Object) ∷ []; result = None })
    ∷ method (codes "Two") (codes "Two") (record { params = param_of (codes "a") true (plain bases.I32) ∷ param_of (codes "b") true (plain bases.I32) ∷ []; result = None }) ∷ [])

abbrev pub interfaces : List Edited
interfaces =
    -- No Guid; one of six bytes; two owners; none; an owner's name past the value.
    (cell 0x59E 0x1B, fault kinds.MissingAttribute 0x3AA) ∷
    (cell 0x5A0 0x94, fault kinds.BadShape 0x5A0) ∷
    (cell 0x5C6 0xE3, fault kinds.BadShape 0x3B8) ∷
    (cell 0x5B4 0x23, Ok (with_factory factory_of_none)) ∷
    (byte 0x9C7 0x7F, fault kinds.BadShape 0x5B8) ∷
    -- The setter belongs to no property; the getter doesn't; the getter is the setter too; the setter is that of another property.
    (cell 0x632 0, Ok (with_box box_of_two)) ∷
    (cell 0x62C 0, fault kinds.BadShape 0x45C) ∷
    (cell 0x632 5, fault kinds.BadShape 0x44E) ∷
    (cell 0x634 5, fault kinds.BadShape 0x45C) ∷
    -- An event without a method that removes; an accessor of another meaning; a property that isn't there; a getter of an event.
    (cell 0x626 0, fault kinds.BadShape 0x4B0) ∷
    (cell 0x62A 4, fault kinds.BadShape 0x62A) ∷
    (cell 0x62E 9, fault kinds.RowRange 0x62E) ∷
    (cell 0x62E 2, fault kinds.BadShape 0x62A) ∷
    -- The type of an event; the name and the signature of a property.
    (cell 0x5FE 3, fault kinds.BadTag 0x5FE) ∷
    (cell 0x5FE 0x30, fault kinds.RowRange 0x5FE) ∷
    (cell 0x60E 0, fault kinds.BadShape 0x60E) ∷
    (byte 0xA30 0x08, fault kinds.SigElement 0x610) ∷
    (byte 0xA31 1, fault kinds.SigElement 0x610) ∷
    (byte 0xA32 0x0D, fault kinds.FloatType 0x610) ∷
    -- The names of a method and of a parameter; two parameters of one number; one without a row.
    (cell 0x43A 0x153, fault kinds.BadShape 0x43A) ∷
    (cell 0x4D6 0, fault kinds.BadShape 0x4D6) ∷
    (cell 0x4E6 1, fault kinds.BadShape 0x476) ∷
    (cell 0x476 5, fault kinds.BadShape 0x476) ∷
    -- The result's token: of no table; past TypeDef; a TypeSpec.
    (byte 0x8E3 0x0B, fault kinds.BadTag 0x44A) ∷
    (byte 0x8E3 0x30, fault kinds.RowRange 0x44A) ∷
    (byte 0x8E3 0x0E, fault kinds.SigElement 0x44A) ∷
    -- Passed over: to which types the maps of properties and of events lead; the flags of a parameter.
    (cell 0x600 0x0B, Ok shop) ∷
    (cell 0x5F6 2, Ok shop) ∷
    (cell 0x4DE 1, Ok shop) ∷
    []

-- ---- the enum Shop.Size: row 11 of TypeDef at 0x3F0, its fields from 0x3FE on

abbrev pub cases_from : Case → List Case
cases_from first = first ∷ case_of (codes "Medium") (pos 5) ∷ case_of (codes "Large") (pos 6) ∷ []

abbrev pub enums : List Edited
enums =
    -- The field of the value: another name; the flag of a case; another beside it; of the enum's own type; of ELEMENT_TYPE_R4.
    (cell 0x400 0x140, fault kinds.BadShape 0x400) ∷
    (cell 0x3FE 0x0641, fault kinds.BadShape 0x3FA) ∷
    (cell 0x404 0x0016, fault kinds.BadShape 0x3FA) ∷
    (cell 0x402 4, fault kinds.BadShape 0x402) ∷
    (byte 0x8CB 0x0C, fault kinds.FloatType 0x402) ∷
    -- Of U4, where the constants are of I4, and where they aren't; a constant of another type; none; one below zero.
    (byte 0x8CB 9, fault kinds.BadShape 0x540) ∷
    (byte 0x8CB 9 ++ byte 0x53C 9 ++ byte 0x542 9 ++ byte 0x548 9, Ok (with_size true (cases_from (case_of (codes "Small") (pos 0))))) ∷
    (byte 0x53C 9, fault kinds.BadShape 0x540) ∷
    (cell 0x53E 9, fault kinds.BadShape 0x404) ∷
    (byte 0x937 0x80, Ok (with_size false (cases_from (case_of (codes "Small") (negsuc 2147483647))))) ∷
    []

-- ---- lists of rows

abbrev pub lists : List Edited
lists =
    -- They begin at 0, each with rows: fields and methods of `<Module>`, parameters, events, properties.
    (cell 0x36E 0, fault kinds.RowRange 0x36E) ∷
    (cell 0x370 0, fault kinds.RowRange 0x370) ∷
    (cell 0x422 0, fault kinds.RowRange 0x422) ∷
    (cell 0x5F8 0, fault kinds.RowRange 0x5F8) ∷
    (cell 0x602 0, fault kinds.RowRange 0x602) ∷
    -- They run backwards, or past the end.
    (cell 0x37C 2, fault kinds.ListOrder 0x37C) ∷
    (cell 0x37E 5, fault kinds.ListOrder 0x37E) ∷
    (cell 0x430 3, fault kinds.ListOrder 0x430) ∷
    (cell 0x5F8 3, fault kinds.ListOrder 0x5F8) ∷
    (cell 0x602 3, fault kinds.ListOrder 0x602) ∷
    (cell 0x60A 5, fault kinds.ListOrder 0x606) ∷
    []
