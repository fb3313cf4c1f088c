-- The schema: the number and the columns of each table (ECMA-335 II.22), and the tables that each coded index may name (II.24.2.6).
use Rattle.std.specs.Prelude.{ℕ, List, [], ◌∷◌, Option, Some, None}
use Rattle.md_schema.specs.declared.table.Table.{Table}
use Rattle.md_schema.specs.declared.table.Table.TheVariants as tables
use Rattle.md_schema.specs.declared.column.CodedIndex.{CodedIndex}
use Rattle.md_schema.specs.declared.column.CodedIndex.TheVariants as coded
use Rattle.md_schema.specs.declared.column.Column.{Column}
use Rattle.md_schema.specs.declared.column.Column.TheVariants.{One, Two, Four, Texts, Guids, Blobs, Index, Coded}

-- all tables, in the order of their numbers
abbrev pub all_tables : List Table
all_tables = tables.Module ∷ tables.TypeRef ∷ tables.TypeDef ∷ tables.Field ∷ tables.MethodDef ∷ tables.Param ∷ tables.InterfaceImpl ∷ tables.MemberRef ∷ tables.Constant ∷ tables.CustomAttribute ∷ tables.FieldMarshal ∷ tables.DeclSecurity ∷ tables.ClassLayout ∷ tables.FieldLayout ∷ tables.StandAloneSig ∷ tables.EventMap ∷ tables.Event ∷ tables.PropertyMap ∷ tables.Property ∷ tables.MethodSemantics ∷ tables.MethodImpl ∷ tables.ModuleRef ∷ tables.TypeSpec ∷ tables.ImplMap ∷ tables.FieldRva ∷ tables.Assembly ∷ tables.AssemblyProcessor ∷ tables.AssemblyOs ∷ tables.AssemblyRef ∷ tables.AssemblyRefProcessor ∷ tables.AssemblyRefOs ∷ tables.File ∷ tables.ExportedType ∷ tables.ManifestResource ∷ tables.NestedClass ∷ tables.GenericParam ∷ tables.MethodSpec ∷ tables.GenericParamConstraint ∷ []

-- the number of a table
abbrev pub number_of : Table → ℕ
number_of tables.Module = 0x00
number_of tables.TypeRef = 0x01
number_of tables.TypeDef = 0x02
number_of tables.Field = 0x04
number_of tables.MethodDef = 0x06
number_of tables.Param = 0x08
number_of tables.InterfaceImpl = 0x09
number_of tables.MemberRef = 0x0A
number_of tables.Constant = 0x0B
number_of tables.CustomAttribute = 0x0C
number_of tables.FieldMarshal = 0x0D
number_of tables.DeclSecurity = 0x0E
number_of tables.ClassLayout = 0x0F
number_of tables.FieldLayout = 0x10
number_of tables.StandAloneSig = 0x11
number_of tables.EventMap = 0x12
number_of tables.Event = 0x14
number_of tables.PropertyMap = 0x15
number_of tables.Property = 0x17
number_of tables.MethodSemantics = 0x18
number_of tables.MethodImpl = 0x19
number_of tables.ModuleRef = 0x1A
number_of tables.TypeSpec = 0x1B
number_of tables.ImplMap = 0x1C
number_of tables.FieldRva = 0x1D
number_of tables.Assembly = 0x20
number_of tables.AssemblyProcessor = 0x21
number_of tables.AssemblyOs = 0x22
number_of tables.AssemblyRef = 0x23
number_of tables.AssemblyRefProcessor = 0x24
number_of tables.AssemblyRefOs = 0x25
number_of tables.File = 0x26
number_of tables.ExportedType = 0x27
number_of tables.ManifestResource = 0x28
number_of tables.NestedClass = 0x29
number_of tables.GenericParam = 0x2A
number_of tables.MethodSpec = 0x2B
number_of tables.GenericParamConstraint = 0x2C

-- where a table stands in the order of numbers
abbrev pub place_of : Table → ℕ
place_of tables.Module = 0
place_of tables.TypeRef = 1
place_of tables.TypeDef = 2
place_of tables.Field = 3
place_of tables.MethodDef = 4
place_of tables.Param = 5
place_of tables.InterfaceImpl = 6
place_of tables.MemberRef = 7
place_of tables.Constant = 8
place_of tables.CustomAttribute = 9
place_of tables.FieldMarshal = 10
place_of tables.DeclSecurity = 11
place_of tables.ClassLayout = 12
place_of tables.FieldLayout = 13
place_of tables.StandAloneSig = 14
place_of tables.EventMap = 15
place_of tables.Event = 16
place_of tables.PropertyMap = 17
place_of tables.Property = 18
place_of tables.MethodSemantics = 19
place_of tables.MethodImpl = 20
place_of tables.ModuleRef = 21
place_of tables.TypeSpec = 22
place_of tables.ImplMap = 23
place_of tables.FieldRva = 24
place_of tables.Assembly = 25
place_of tables.AssemblyProcessor = 26
place_of tables.AssemblyOs = 27
place_of tables.AssemblyRef = 28
place_of tables.AssemblyRefProcessor = 29
place_of tables.AssemblyRefOs = 30
place_of tables.File = 31
place_of tables.ExportedType = 32
place_of tables.ManifestResource = 33
place_of tables.NestedClass = 34
place_of tables.GenericParam = 35
place_of tables.MethodSpec = 36
place_of tables.GenericParamConstraint = 37

-- the columns of a table
abbrev pub columns_of : Table → List Column
columns_of tables.Module = Two ∷ Texts ∷ Guids ∷ Guids ∷ Guids ∷ []
columns_of tables.TypeRef = (Coded coded.ResolutionScope) ∷ Texts ∷ Texts ∷ []
columns_of tables.TypeDef = Four ∷ Texts ∷ Texts ∷ (Coded coded.TypeDefOrRef) ∷ (Index tables.Field) ∷ (Index tables.MethodDef) ∷ []
columns_of tables.Field = Two ∷ Texts ∷ Blobs ∷ []
columns_of tables.MethodDef = Four ∷ Two ∷ Two ∷ Texts ∷ Blobs ∷ (Index tables.Param) ∷ []
columns_of tables.Param = Two ∷ Two ∷ Texts ∷ []
columns_of tables.InterfaceImpl = (Index tables.TypeDef) ∷ (Coded coded.TypeDefOrRef) ∷ []
columns_of tables.MemberRef = (Coded coded.MemberRefParent) ∷ Texts ∷ Blobs ∷ []
columns_of tables.Constant = One ∷ One ∷ (Coded coded.HasConstant) ∷ Blobs ∷ []
columns_of tables.CustomAttribute = (Coded coded.HasCustomAttribute) ∷ (Coded coded.CustomAttributeType) ∷ Blobs ∷ []
columns_of tables.FieldMarshal = (Coded coded.HasFieldMarshal) ∷ Blobs ∷ []
columns_of tables.DeclSecurity = Two ∷ (Coded coded.HasDeclSecurity) ∷ Blobs ∷ []
columns_of tables.ClassLayout = Two ∷ Four ∷ (Index tables.TypeDef) ∷ []
columns_of tables.FieldLayout = Four ∷ (Index tables.Field) ∷ []
columns_of tables.StandAloneSig = Blobs ∷ []
columns_of tables.EventMap = (Index tables.TypeDef) ∷ (Index tables.Event) ∷ []
columns_of tables.Event = Two ∷ Texts ∷ (Coded coded.TypeDefOrRef) ∷ []
columns_of tables.PropertyMap = (Index tables.TypeDef) ∷ (Index tables.Property) ∷ []
columns_of tables.Property = Two ∷ Texts ∷ Blobs ∷ []
columns_of tables.MethodSemantics = Two ∷ (Index tables.MethodDef) ∷ (Coded coded.HasSemantics) ∷ []
columns_of tables.MethodImpl = (Index tables.TypeDef) ∷ (Coded coded.MethodDefOrRef) ∷ (Coded coded.MethodDefOrRef) ∷ []
columns_of tables.ModuleRef = Texts ∷ []
columns_of tables.TypeSpec = Blobs ∷ []
columns_of tables.ImplMap = Two ∷ (Coded coded.MemberForwarded) ∷ Texts ∷ (Index tables.ModuleRef) ∷ []
columns_of tables.FieldRva = Four ∷ (Index tables.Field) ∷ []
columns_of tables.Assembly = Four ∷ Two ∷ Two ∷ Two ∷ Two ∷ Four ∷ Blobs ∷ Texts ∷ Texts ∷ []
columns_of tables.AssemblyProcessor = Four ∷ []
columns_of tables.AssemblyOs = Four ∷ Four ∷ Four ∷ []
columns_of tables.AssemblyRef = Two ∷ Two ∷ Two ∷ Two ∷ Four ∷ Blobs ∷ Texts ∷ Texts ∷ Blobs ∷ []
columns_of tables.AssemblyRefProcessor = Four ∷ (Index tables.AssemblyRef) ∷ []
columns_of tables.AssemblyRefOs = Four ∷ Four ∷ Four ∷ (Index tables.AssemblyRef) ∷ []
columns_of tables.File = Four ∷ Texts ∷ Blobs ∷ []
columns_of tables.ExportedType = Four ∷ Four ∷ Texts ∷ Texts ∷ (Coded coded.Implementation) ∷ []
columns_of tables.ManifestResource = Four ∷ Four ∷ Texts ∷ (Coded coded.Implementation) ∷ []
columns_of tables.NestedClass = (Index tables.TypeDef) ∷ (Index tables.TypeDef) ∷ []
columns_of tables.GenericParam = Two ∷ Two ∷ (Coded coded.TypeOrMethodDef) ∷ Texts ∷ []
columns_of tables.MethodSpec = (Coded coded.MethodDefOrRef) ∷ Blobs ∷ []
columns_of tables.GenericParamConstraint = (Index tables.GenericParam) ∷ (Coded coded.TypeDefOrRef) ∷ []

-- the tables that a coded index may name, by tag
abbrev pub choices_of : CodedIndex → List (Option Table)
choices_of coded.TypeDefOrRef = (Some tables.TypeDef) ∷ (Some tables.TypeRef) ∷ (Some tables.TypeSpec) ∷ []
choices_of coded.HasConstant = (Some tables.Field) ∷ (Some tables.Param) ∷ (Some tables.Property) ∷ []
choices_of coded.HasCustomAttribute = (Some tables.MethodDef) ∷ (Some tables.Field) ∷ (Some tables.TypeRef) ∷ (Some tables.TypeDef) ∷ (Some tables.Param) ∷ (Some tables.InterfaceImpl) ∷ (Some tables.MemberRef) ∷ (Some tables.Module) ∷ (Some tables.DeclSecurity) ∷ (Some tables.Property) ∷ (Some tables.Event) ∷ (Some tables.StandAloneSig) ∷ (Some tables.ModuleRef) ∷ (Some tables.TypeSpec) ∷ (Some tables.Assembly) ∷ (Some tables.AssemblyRef) ∷ (Some tables.File) ∷ (Some tables.ExportedType) ∷ (Some tables.ManifestResource) ∷ (Some tables.GenericParam) ∷ (Some tables.GenericParamConstraint) ∷ (Some tables.MethodSpec) ∷ []
choices_of coded.HasFieldMarshal = (Some tables.Field) ∷ (Some tables.Param) ∷ []
choices_of coded.HasDeclSecurity = (Some tables.TypeDef) ∷ (Some tables.MethodDef) ∷ (Some tables.Assembly) ∷ []
choices_of coded.MemberRefParent = (Some tables.TypeDef) ∷ (Some tables.TypeRef) ∷ (Some tables.ModuleRef) ∷ (Some tables.MethodDef) ∷ (Some tables.TypeSpec) ∷ []
choices_of coded.HasSemantics = (Some tables.Event) ∷ (Some tables.Property) ∷ []
choices_of coded.MethodDefOrRef = (Some tables.MethodDef) ∷ (Some tables.MemberRef) ∷ []
choices_of coded.MemberForwarded = (Some tables.Field) ∷ (Some tables.MethodDef) ∷ []
choices_of coded.Implementation = (Some tables.File) ∷ (Some tables.AssemblyRef) ∷ (Some tables.ExportedType) ∷ []
choices_of coded.CustomAttributeType = None ∷ None ∷ (Some tables.MethodDef) ∷ (Some tables.MemberRef) ∷ None ∷ []
choices_of coded.ResolutionScope = (Some tables.Module) ∷ (Some tables.ModuleRef) ∷ (Some tables.AssemblyRef) ∷ (Some tables.TypeRef) ∷ []
choices_of coded.TypeOrMethodDef = (Some tables.TypeDef) ∷ (Some tables.MethodDef) ∷ []

-- how many bits its tag has
abbrev pub bits_of : CodedIndex → ℕ
bits_of coded.TypeDefOrRef = 2
bits_of coded.HasConstant = 2
bits_of coded.HasCustomAttribute = 5
bits_of coded.HasFieldMarshal = 1
bits_of coded.HasDeclSecurity = 2
bits_of coded.MemberRefParent = 3
bits_of coded.HasSemantics = 1
bits_of coded.MethodDefOrRef = 1
bits_of coded.MemberForwarded = 1
bits_of coded.Implementation = 2
bits_of coded.CustomAttributeType = 3
bits_of coded.ResolutionScope = 2
bits_of coded.TypeOrMethodDef = 1
