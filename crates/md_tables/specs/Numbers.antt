-- Which numbers are those of tables (ECMA-335 II.22).
use Rattle.std.specs.Prelude.{ℕ, List, [], ◌∷◌, Option, Some, None, Bool, get_or, is_some, length}
use Rattle.md_schema.specs.declared.table.Table.{Table}
use Rattle.md_schema.specs.declared.table.Table.TheVariants as tables

-- the tables by number, from 0
abbrev pub by_number : List (Option Table)
by_number = (Some tables.Module) ∷ (Some tables.TypeRef) ∷ (Some tables.TypeDef) ∷ None ∷ (Some tables.Field) ∷ None ∷ (Some tables.MethodDef) ∷ None ∷ (Some tables.Param) ∷ (Some tables.InterfaceImpl) ∷ (Some tables.MemberRef) ∷ (Some tables.Constant) ∷ (Some tables.CustomAttribute) ∷ (Some tables.FieldMarshal) ∷ (Some tables.DeclSecurity) ∷ (Some tables.ClassLayout) ∷ (Some tables.FieldLayout) ∷ (Some tables.StandAloneSig) ∷ (Some tables.EventMap) ∷ None ∷ (Some tables.Event) ∷ (Some tables.PropertyMap) ∷ None ∷ (Some tables.Property) ∷ (Some tables.MethodSemantics) ∷ (Some tables.MethodImpl) ∷ (Some tables.ModuleRef) ∷ (Some tables.TypeSpec) ∷ (Some tables.ImplMap) ∷ (Some tables.FieldRva) ∷ None ∷ None ∷ (Some tables.Assembly) ∷ (Some tables.AssemblyProcessor) ∷ (Some tables.AssemblyOs) ∷ (Some tables.AssemblyRef) ∷ (Some tables.AssemblyRefProcessor) ∷ (Some tables.AssemblyRefOs) ∷ (Some tables.File) ∷ (Some tables.ExportedType) ∷ (Some tables.ManifestResource) ∷ (Some tables.NestedClass) ∷ (Some tables.GenericParam) ∷ (Some tables.MethodSpec) ∷ (Some tables.GenericParamConstraint) ∷ []

abbrev pub is_known : ℕ → Bool
is_known n = is_some (get_or by_number n None)

-- what is written and read: the rows of each table, as numbers
abbrev pub Rows : Type 0
Rows = Table → List (List ℕ)

-- how many rows the table of a number has; none where the number has no table
abbrev pub count_or : {A : Type 0} → (Table → List A) → Option Table → ℕ
count_or rows None = 0
count_or rows (Some table) = length (rows table)
