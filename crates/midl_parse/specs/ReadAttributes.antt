-- Attributes, read from the left.
use Rattle.std.specs.Prelude.{List, [], ◌∷◌}
use Rattle.grammar.specs.Readers.{Read, one_at, done_at, ◌>>=◌, either_at, refusing_at}
use Rattle.midl_tree.specs.declared.kind.Kind.TheVariants.{Uuid, Guid, Text, OpenParen, CloseParen, Version, Number, Flags, DefaultInterface, OpenBracket, CloseBracket}
use Rattle.midl_tree.specs.declared.terminal.Terminal.{Terminal}
use Rattle.midl_tree.specs.Kinds.{number_of, no_attributes}
use Rattle.midl_tree.specs.Symbols.{kind_of}
use Rattle.midl_tree.specs.Trees.{AttributeTree, uuid, version, flags, default_interface}
use Rattle.midl_words.specs.declared.stop.Code.{Code}
use Rattle.midl_words.specs.declared.stop.Code.TheVariants.{Syntax, UnknownAttribute}
use Rattle.midl_words.specs.Reading.{is_at}
use Rattle.midl_parse.specs.ReadLists.{listed_at}

unfoldable pub uuid_at : List Terminal → Read Code Terminal AttributeTree
uuid_at = do
  word ← is_at Uuid
  begin ← is_at OpenParen
  id ← one_at kind_of (number_of Guid ∷ number_of Text ∷ []) Syntax
  close ← is_at CloseParen
  done_at (uuid word id)

unfoldable pub version_at : List Terminal → Read Code Terminal AttributeTree
version_at = do
  word ← is_at Version
  begin ← is_at OpenParen
  number ← is_at Number
  close ← is_at CloseParen
  done_at (version word number)

unfoldable pub flags_at : List Terminal → Read Code Terminal AttributeTree
flags_at = do
  word ← is_at Flags
  done_at (flags word)

unfoldable pub default_at : List Terminal → Read Code Terminal AttributeTree
default_at = do
  word ← is_at DefaultInterface
  done_at (default_interface word)

unfoldable pub known_at : List Terminal → Read Code Terminal AttributeTree
known_at = either_at kind_of (number_of Uuid ∷ []) uuid_at (either_at kind_of (number_of Version ∷ []) version_at (either_at kind_of (number_of Flags ∷ []) flags_at default_at))

unfoldable pub other_at : List Terminal → Read Code Terminal AttributeTree
other_at = do
  word ← one_at kind_of no_attributes Syntax
  done_at (flags word)

unfoldable pub attribute_at : List Terminal → Read Code Terminal AttributeTree
attribute_at = refusing_at kind_of no_attributes UnknownAttribute known_at

unfoldable pub attribute_or_name_at : List Terminal → Read Code Terminal AttributeTree
attribute_or_name_at = either_at kind_of no_attributes other_at known_at

unfoldable pub group_at : (List Terminal → Read Code Terminal AttributeTree) → List Terminal → Read Code Terminal (List AttributeTree)
group_at a = do
  begin ← is_at OpenBracket
  attributes ← listed_at a
  close ← is_at CloseBracket
  done_at attributes
