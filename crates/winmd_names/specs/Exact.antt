-- What is looked up is where names and instances stand.
use Rattle.std.specs.Prelude.{◌≡◌, ℕ, suc, List, map, length, String, string_bytes}
use Rattle.std.specs.declared.alloc.Global.{Global}
use Rattle.md_schema.specs.declared.table.Table.TheVariants as tables
use Rattle.wr_base.specs.Trees.{UseTree, tree_of}
use Rattle.wr_base.specs.declared.type_use.TypeUse.{TypeUse}
use Rattle.sig_blobs.specs.Numbers.{number_in}
use Rattle.sig_blobs.specs.declared.tokens.Tokens.{Tokens}
use Rattle.winmd_uses.specs.Keys.{key_of}
use Rattle.winmd_names.specs.Numbers.{def_number, ref_number, row_code}
use Rattle.winmd_names.specs.InstanceRows.{KeyedRows, row_among, row_under}

-- the row of each instance, from 1 on, is under its key
abbrev pub HasRows : List TypeUse → KeyedRows → Type 0
HasRows uses rows = (u : UseTree) → row_under rows (key_of u) ≡ row_among 1 (map tree_of uses) u

-- each name has the number of its TypeDef or its TypeRef; one that has no row, that of the TypeRef behind the last
abbrev pub HasNumbers : List (List ℕ) → List (String Global) → Tokens → Type 0
HasNumbers types refs tokens =
    (full : List ℕ) → number_in tokens full ≡ def_number 2 types full (ref_number 1 (map string_bytes refs) full (row_code tables.TypeRef (suc (length refs))))
