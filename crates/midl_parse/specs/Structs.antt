-- The productions of structs.
use Rattle.std.specs.Prelude.{List}
use Rattle.grammar.specs.Productions.{Done, ◌>>=◌, Many}
use Rattle.midl_tree.specs.declared.kind.Kind.TheVariants.{Semicolon, Struct, OpenBrace, CloseBrace}
use Rattle.midl_tree.specs.declared.terminal.Terminal.{Terminal}
use Rattle.midl_tree.specs.Kinds.{names}
use Rattle.midl_tree.specs.Trees.{TypeTree, FieldsTree, StructTree}
use Rattle.midl_words.specs.Tokens.{Is, IsName, IsThere, IsOwnName}
use Rattle.midl_parse.specs.Lists.{Listed}
use Rattle.midl_parse.specs.Types.{IsType}

module _ (B : List Terminal → TypeTree → Type 0) (G : List Terminal → List TypeTree → Type 0) where
  -- Type Name { "," Name } ";"
  abbrev pub IsFields : List Terminal → FieldsTree → Type 0
  IsFields = do
    kind ← IsType B G
    names ← Listed IsName
    end ← Is Semicolon
    Done (record { kind = kind; names = names })

  -- Struct = "struct" Name "{" { Type Name { "," Name } ";" } "}" [ ";" ] .
  abbrev pub IsStruct : List Terminal → StructTree → Type 0
  IsStruct = do
    word ← Is Struct
    name ← IsOwnName
    begin ← Is OpenBrace
    groups ← Many IsFields
    close ← Is CloseBrace
    end ← IsThere Semicolon
    Done (record { name = name; fields = groups })
