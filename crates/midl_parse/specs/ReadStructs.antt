-- Structs, read from the left.
use Rattle.std.specs.Prelude.{List}
use Rattle.grammar.specs.Readers.{Read, done_at, ◌>>=◌, many_at}
use Rattle.midl_tree.specs.declared.kind.Kind.TheVariants.{Semicolon, Struct, OpenBrace, CloseBrace}
use Rattle.midl_tree.specs.declared.terminal.Terminal.{Terminal}
use Rattle.midl_tree.specs.Kinds.{names}
use Rattle.midl_tree.specs.Trees.{TypeTree, FieldsTree, StructTree}
use Rattle.midl_tree.specs.Symbols.{kind_of}
use Rattle.midl_words.specs.declared.stop.Code.{Code}
use Rattle.midl_words.specs.Reading.{is_at, name_at, is_there_at, own_name_at}
use Rattle.midl_parse.specs.ReadLists.{listed_at}
use Rattle.midl_parse.specs.ReadTypes.{type_at}

module _ (b : List Terminal → Read Code Terminal TypeTree) (g : List Terminal → Read Code Terminal (List TypeTree)) where
  unfoldable pub fields_at : List Terminal → Read Code Terminal FieldsTree
  fields_at = do
    kind ← type_at b g
    names ← listed_at name_at
    end ← is_at Semicolon
    done_at (record { kind = kind; names = names })

  unfoldable pub struct_at : List Terminal → Read Code Terminal StructTree
  struct_at = do
    word ← is_at Struct
    name ← own_name_at
    begin ← is_at OpenBrace
    groups ← many_at kind_of names fields_at
    close ← is_at CloseBrace
    end ← is_there_at Semicolon
    done_at (record { name = name; fields = groups })
