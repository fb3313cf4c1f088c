-- Type names and the numbers that stand for them: TypeDefOrRef coded indices (ECMA-335 II.24.2.6).
use Rattle.std.specs.Prelude.{ℕ, ◌-◌, nat_lt, List, get_or, Option, Some, None, Result, Err, if◌then◌else◌}
use Rattle.md_schema.specs.declared.column.CodedIndex.TheVariants.{TypeDefOrRef}
use Rattle.md_schema.specs.declared.faults.ImageKind.{ImageKind}
use Rattle.md_schema.specs.declared.faults.ImageKind.TheVariants.{BadTag, RowRange, SigElement}
use Rattle.md_schema.specs.declared.table.Table.{Table}
use Rattle.md_schema.specs.declared.table.Table.TheVariants.{TypeDef, TypeRef}
use Rattle.md_schema.specs.Codes.{target_of}
use Rattle.md_schema.specs.Schema.{choices_of, bits_of}
use Rattle.sig_blobs.specs.Uses.{Meanings}

-- The full name in each row, or why it has none that can be read.
pub record Named : Type 0 where
  pub defs : List (Result (List ℕ) ImageKind)
  pub refs : List (Result (List ℕ) ImageKind)

-- rows are counted from 1
abbrev pub row_name : List (Result (List ℕ) ImageKind) → ℕ → Result (List ℕ) ImageKind
row_name rows n = if nat_lt 0 n then get_or rows (n - 1) (Err RowRange) else Err RowRange

-- a signature names a type, and no TypeSpec
abbrev pub target_name : Named → Option (Table × ℕ) → Result (List ℕ) ImageKind
target_name names None = Err BadTag
target_name names (Some (TypeDef, n)) = row_name names.defs n
target_name names (Some (TypeRef, n)) = row_name names.refs n
target_name names (Some (_, n)) = Err SigElement

abbrev pub meaning_in : Named → Meanings
meaning_in names token = target_name names (target_of (bits_of TypeDefOrRef) (choices_of TypeDefOrRef) token)
