-- A declaration whose lists that stand for sets are in order.
use Rattle.std.specs.Prelude.{ℕ, List}
use Rattle.wr_base.specs.declared.declaration.Declaration.{Declaration}
use Rattle.wr_base.specs.declared.declaration.Declaration.TheVariants.{Enum, Struct, Delegate, Interface, Class}
use Rattle.wr_base.specs.Sets.{set_by}
use Rattle.wr_base.specs.Uses.{text_of}

-- full names in the order of bytes, each once
abbrev pub names_in_order : List (List ℕ) → List (List ℕ)
names_in_order names = set_by (λ name. name) names

-- the lists of requires, has, factories and statics by text, each text once; all else as it is
abbrev pub normal : Declaration → Declaration
normal (Enum name version flags cases) = Enum name version flags cases
normal (Struct name version fields) = Struct name version fields
normal (Delegate name version id invoke) = Delegate name version id invoke
normal (Interface name version id owner requires_ members) = Interface name version id owner (set_by text_of requires_) members
normal (Class name version fixed default has direct factories statics) =
    Class name version fixed default (set_by text_of has) direct (names_in_order factories) (names_in_order statics)
