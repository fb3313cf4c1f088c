-- Signatures, by computation.
use Rattle.std.proofs.Common.{◌≡◌, List, [], ◌∷◌, Some, None, Bool, refl, true, false}
use Rattle.std.specs.Prelude.{codes}
use Rattle.wr_base.specs.declared.type_use.Base.TheVariants.{I32}
use Rattle.wr_base.specs.declared.type_use.TypeUse.TheVariants.{Value, Reference}
use Rattle.wr_base.specs.declared.declaration.Declaration.{Declaration}
use Rattle.wr_base.specs.declared.declaration.Declaration.TheVariants.{Enum, Struct, Delegate, Interface, Class}
use Rattle.found_table.specs.Table.{foundation}
use Rattle.uuid.proofs.OnLiterals.{uuid_on_literals}
use Rattle.wr_base.specs.Trees.{plain, value, reference, instance, no_uses, use_and}
use Rattle.wr_rules.specs.Signatures.{signature_text}
use Rattle.wr_base.proofs.TreeLaws.{tree_Value, tree_Reference}

abbrev bell : List Declaration
bell =
    Class (codes "Shop.Bell") 1 false (Some (Reference (codes "Shop.IBell"))) (Reference (codes "Shop.IBell") ∷ []) false [] []
    ∷ Interface (codes "Shop.IBell") 1 0x0b0e5a10111142228333444455556666 None [] [] ∷ []

number_text : signature_text [] (instance (foundation (codes "IReference")) (use_and (plain I32) no_uses)) ≡ Some (codes "pinterface({61c17706-2d65-11e0-9ae8-d48564015472};i4)")
unfolding signature_text uuid_on_literals
number_text = refl

handler_text : signature_text bell (instance (foundation (codes "TypedEventHandler")) (use_and (reference (codes "Shop.Bell")) (use_and (plain I32) no_uses)))
    ≡ Some (codes "pinterface({9de1c534-6ae1-11e0-84e1-18a905bcc53f};rc(Shop.Bell;{0b0e5a10-1111-4222-8333-444455556666});i4)")
unfolding signature_text uuid_on_literals
handler_text = rw (tree_Reference (codes "Shop.IBell")) refl

-- a delegate without result
abbrev rung : Declaration
rung = Delegate (codes "Shop.Rung") 1 1 (record { params = []; result = None })

-- one declaration alone
abbrev only : Declaration → List Declaration
only d = d ∷ []

abbrev base_type : Bool → Declaration
base_type flags = Enum (codes "Shop.Size") 1 flags []

-- an enum names the type below it
enum_text : (signature_text (only (base_type false)) (value (codes "Shop.Size")) ≡ Some (codes "enum(Shop.Size;i4)")) × (signature_text (only (base_type true)) (value (codes "Shop.Size")) ≡ Some (codes "enum(Shop.Size;u4)"))
unfolding signature_text uuid_on_literals
enum_text = (refl, refl)

-- the kind of the declaration counts, not that of the use
delegate_text : (signature_text (only rung) (reference (codes "Shop.Rung")) ≡ Some (codes "delegate({00000000-0000-0000-0000-000000000001})")) × (signature_text (only rung) (value (codes "Shop.Rung")) ≡ Some (codes "delegate({00000000-0000-0000-0000-000000000001})"))
unfolding signature_text uuid_on_literals
delegate_text = (refl, refl)

-- a class without default is its name alone
bare_text : signature_text (only (Class (codes "Shop.Tool") 1 true None [] false [] [])) (reference (codes "Shop.Tool")) ≡ Some (codes "rc(Shop.Tool)")
unfolding signature_text uuid_on_literals
bare_text = refl

-- a struct that is met again within itself is written without its fields
loop_text : signature_text (only (Struct (codes "A.L") 1 (record { name = codes "X"; ty = Value (codes "A.L") } ∷ []))) (value (codes "A.L")) ≡ Some (codes "struct(A.L;struct(A.L))")
unfolding signature_text uuid_on_literals
loop_text = rw (tree_Value (codes "A.L")) refl

-- a name that means nothing has none, at any depth; nor has a template with another number of arguments, nor an instance of a declared type
no_text :
    (signature_text [] (reference (codes "A.B")) ≡ None)
    × (signature_text [] (instance (foundation (codes "IReference")) (use_and (value (codes "A.B")) no_uses)) ≡ None)
    × (signature_text [] (instance (foundation (codes "IReference")) no_uses) ≡ None)
    × (signature_text (only rung) (instance (codes "Shop.Rung") no_uses) ≡ None)
unfolding signature_text uuid_on_literals
no_text = (refl, refl, refl, refl)
