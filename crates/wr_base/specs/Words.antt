-- The words of the fundamental types.
use Rattle.std.specs.Prelude.{ℕ, List, [], ◌∷◌, Option, Some, None, codes, if◌then◌else◌}
use Rattle.std.specs.Str.{bytes_eq}
use Rattle.wr_base.specs.declared.type_use.Base.{Base}
use Rattle.wr_base.specs.declared.type_use.Base.TheVariants.{Boolean, Char, U8, I16, U16, I32, U32, I64, U64, Text, Guid, Object}

-- each word and what it means (MIDL 3.0 reference, Type system); `Char16` is a second spelling of `Char`
abbrev pub base_words : List (List ℕ × Base)
base_words =
    (codes "Boolean", Boolean) ∷ (codes "Char", Char) ∷ (codes "Char16", Char) ∷ (codes "UInt8", U8) ∷ (codes "Int16", I16) ∷ (codes "UInt16", U16) ∷ (codes "Int32", I32)
    ∷ (codes "UInt32", U32) ∷ (codes "Int64", I64) ∷ (codes "UInt64", U64) ∷ (codes "String", Text) ∷ (codes "Guid", Guid) ∷ (codes "Object", Object) ∷ []

-- what a table says of a word
abbrev pub base_in : List (List ℕ × Base) → List ℕ → Option Base
base_in [] word = None
base_in (row ∷ rows) word = if bytes_eq word row.0 then Some row.1 else base_in rows word

-- the fundamental type of a word, where it is the word of one
unfoldable pub base_of_word : List ℕ → Option Base
base_of_word word = base_in base_words word
