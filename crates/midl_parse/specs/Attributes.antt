-- The productions of attributes; and, as the code of a fault asks, with any other Name as an attribute.
use Rattle.std.specs.Prelude.{List, [], ◌∷◌}
use Rattle.grammar.specs.Productions.{One, Done, ◌>>=◌, Either}
use Rattle.midl_tree.specs.declared.kind.Kind.TheVariants.{Uuid, Version, Flags, DefaultInterface, Number, Guid, Text, OpenParen, CloseParen, OpenBracket, CloseBracket}
use Rattle.midl_tree.specs.declared.terminal.Terminal.{Terminal}
use Rattle.midl_tree.specs.Kinds.{number_of, no_attributes}
use Rattle.midl_tree.specs.Symbols.{kind_of}
use Rattle.midl_tree.specs.Trees.{AttributeTree, uuid, version, flags, default_interface}
use Rattle.midl_words.specs.Tokens.{Is}
use Rattle.midl_parse.specs.Lists.{Listed}

-- Attr = "uuid" "(" ( Guid | Text ) ")" | "version" "(" Number ")" | "flags" | "default_interface" .
abbrev pub IsAttribute : List Terminal → AttributeTree → Type 0
IsAttribute = Either (do
  word ← Is Uuid
  begin ← Is OpenParen
  id ← One kind_of (number_of Guid ∷ number_of Text ∷ [])
  close ← Is CloseParen
  Done (uuid word id)) (Either (do
    word ← Is Version
    begin ← Is OpenParen
    number ← Is Number
    close ← Is CloseParen
    Done (version word number)) (Either (do
      word ← Is Flags
      Done (flags word)) (do
        word ← Is DefaultInterface
        Done (default_interface word))))

-- with any other Name as an attribute
abbrev pub IsAttributeOrName : List Terminal → AttributeTree → Type 0
IsAttributeOrName = Either (do
  word ← One kind_of no_attributes
  Done (flags word)) IsAttribute

-- "[" Attr { "," Attr } "]"
abbrev pub IsGroup : (List Terminal → AttributeTree → Type 0) → List Terminal → List AttributeTree → Type 0
IsGroup A = do
  begin ← Is OpenBracket
  attributes ← Listed A
  close ← Is CloseBracket
  Done attributes
