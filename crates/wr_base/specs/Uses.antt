-- The text of a type use.
use Rattle.std.specs.Prelude.{ℕ, List, [], ◌∷◌, ◌++◌, codes}
use Rattle.std.specs.List.{join_with_byte}
use Rattle.wr_base.specs.declared.type_use.Base.{Base}
use Rattle.wr_base.specs.declared.type_use.Base.TheVariants.{Boolean, Char, U8, I16, U16, I32, U32, I64, U64, Text, Guid, Object}
use Rattle.wr_base.specs.declared.type_use.TypeUse.{TypeUse, fold-TypeUse}
use Rattle.wr_base.specs.declared.type_use.TypeUse.TheOpen.{TypeUse-F}

-- the word of a fundamental type (MIDL 3.0 reference, Type system)
abbrev pub word_of : Base → List ℕ
word_of Boolean = codes "Boolean"
word_of Char = codes "Char"
word_of U8 = codes "UInt8"
word_of I16 = codes "Int16"
word_of U16 = codes "UInt16"
word_of I32 = codes "Int32"
word_of U32 = codes "UInt32"
word_of I64 = codes "Int64"
word_of U64 = codes "UInt64"
word_of Text = codes "String"
word_of Guid = codes "Guid"
word_of Object = codes "Object"

-- the text of one level, where the arguments' texts are given
abbrev pub text_at : TypeUse-F (List ℕ) → List ℕ
text_at (TypeUse-F.Plain base) = word_of base
text_at (TypeUse-F.Value name) = name
text_at (TypeUse-F.Reference name) = name
text_at (TypeUse-F.Inst name arguments) = name ++ 60 ∷ join_with_byte 44 arguments ++ 62 ∷ []

-- the word, the full name, or `Name<a,b>`
abbrev pub text_of : TypeUse → List ℕ
text_of use_ = fold-TypeUse (List ℕ) text_at use_
