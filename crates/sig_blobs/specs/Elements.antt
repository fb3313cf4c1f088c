-- The elements of signatures (ECMA-335 II.23.1.16).
use Rattle.std.specs.Prelude.{ℕ, ◌==◌, ◌||◌, Bool, true, false, List, [], ◌∷◌, codes, Option, Some, None, if◌then◌else◌}
use Rattle.wr_base.specs.declared.type_use.Base.{Base}
use Rattle.wr_base.specs.declared.type_use.Base.TheVariants.{Boolean, Char, U8, I16, U16, I32, U32, I64, U64, Text, Guid, Object}

abbrev pub void : ℕ
void = 0x01

abbrev pub by_ref : ℕ
by_ref = 0x10

abbrev pub value_type : ℕ
value_type = 0x11

abbrev pub class : ℕ
class = 0x12

abbrev pub generic_inst : ℕ
generic_inst = 0x15

-- ELEMENT_TYPE_R4 and ELEMENT_TYPE_R8
abbrev pub is_float : ℕ → Bool
is_float b = b == 0x0C || b == 0x0D

-- CMOD_REQD and CMOD_OPT
abbrev pub is_modifier : ℕ → Bool
is_modifier b = b == 0x1F || b == 0x20

-- the element of a base type; a Guid is the value type `System.Guid`, which has none of its own
abbrev pub element_of : Base → ℕ
element_of Boolean = 0x02
element_of Char = 0x03
element_of U8 = 0x05
element_of I16 = 0x06
element_of U16 = 0x07
element_of I32 = 0x08
element_of U32 = 0x09
element_of I64 = 0x0A
element_of U64 = 0x0B
element_of Text = 0x0E
element_of Guid = value_type
element_of Object = 0x1C

abbrev pub is_guid : Base → Bool
is_guid Guid = true
is_guid _ = false

abbrev pub system_guid : List ℕ
system_guid = codes "System.Guid"

-- the base types that have an element of their own
abbrev pub plain_bases : List Base
plain_bases = Boolean ∷ Char ∷ U8 ∷ I16 ∷ U16 ∷ I32 ∷ U32 ∷ I64 ∷ U64 ∷ Text ∷ Object ∷ []

abbrev pub base_among : List Base → ℕ → Option Base
base_among [] b = None
base_among (base ∷ bases) b = if b == element_of base then Some base else base_among bases b

-- the base type of an element
abbrev pub base_of : ℕ → Option Base
base_of b = base_among plain_bases b
