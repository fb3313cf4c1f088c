-- Lists by table.
use Rattle.std.proofs.Common.{◌≡◌, ℕ, zero, suc, ◌+◌, ◌*◌, ◌^◌, ◌≤◌, ◌<◌, List, [], ◌∷◌, ◌++◌, take, map, get_or, length, refl, sym, subst, arith}
use Rattle.std.proofs.Math.Seq.{take-suc}
use Rattle.std.proofs.lemmas.Nat.{mul-le}
use Rattle.std.proofs.lemmas.List.{length-map, map_push}
use Rattle.md_schema.specs.declared.table.Table.{Table}
use Rattle.md_schema.specs.declared.table.Table.TheVariants as tables
use Rattle.md_schema.specs.declared.sizes.Sizes.{Sizes}
use Rattle.md_schema.specs.Schema.{all_tables, columns_of, place_of}
use Rattle.md_schema.specs.Tables.{widths_of}
use Rattle.md_schema.specs.Widths.{width_of}

-- one more number that isn't above the others
pub capped : (xs : List ℕ) (y most : ℕ) → y ≤ most → ((k : ℕ) → get_or xs k 0 ≤ most) → (k : ℕ) → get_or (xs ++ y ∷ []) k 0 ≤ most
capped [] y most h all zero = h
capped [] y most h all (suc k) = omega arith
capped (x ∷ xs) y most h all zero = all zero
capped (x ∷ xs) y most h all (suc k) = capped xs y most h (λ j. all (suc j)) k

pub longer : (f : Table → ℕ) (order : List Table) (d : Table) (i most new one : ℕ) → i < length order → most ≤ new → one ≡ f (get_or order i d) → one ≤ new
    → ((k : ℕ) → get_or (map f (take i order)) k 0 ≤ most) → (k : ℕ) → get_or (map f (take (i + 1) order)) k 0 ≤ new
longer f order d i most new one within up mine low all k =
    let e : i + 1 ≡ suc i = omega arith in
    rw (e, take-suc order i d within, map_push f (take i order) (get_or order i d)) (capped (map f (take i order)) (f (get_or order i d)) new (omega (arith, mine, low)) (λ j. (let h = all j in omega (arith, h, up))) k)

pub at_place : (f : Table → ℕ) (table : Table) → get_or (map f all_tables) (place_of table) 0 ≡ f table
at_place f tables.Module = refl
at_place f tables.TypeRef = refl
at_place f tables.TypeDef = refl
at_place f tables.Field = refl
at_place f tables.MethodDef = refl
at_place f tables.Param = refl
at_place f tables.InterfaceImpl = refl
at_place f tables.MemberRef = refl
at_place f tables.Constant = refl
at_place f tables.CustomAttribute = refl
at_place f tables.FieldMarshal = refl
at_place f tables.DeclSecurity = refl
at_place f tables.ClassLayout = refl
at_place f tables.FieldLayout = refl
at_place f tables.StandAloneSig = refl
at_place f tables.EventMap = refl
at_place f tables.Event = refl
at_place f tables.PropertyMap = refl
at_place f tables.Property = refl
at_place f tables.MethodSemantics = refl
at_place f tables.MethodImpl = refl
at_place f tables.ModuleRef = refl
at_place f tables.TypeSpec = refl
at_place f tables.ImplMap = refl
at_place f tables.FieldRva = refl
at_place f tables.Assembly = refl
at_place f tables.AssemblyProcessor = refl
at_place f tables.AssemblyOs = refl
at_place f tables.AssemblyRef = refl
at_place f tables.AssemblyRefProcessor = refl
at_place f tables.AssemblyRefOs = refl
at_place f tables.File = refl
at_place f tables.ExportedType = refl
at_place f tables.ManifestResource = refl
at_place f tables.NestedClass = refl
at_place f tables.GenericParam = refl
at_place f tables.MethodSpec = refl
at_place f tables.GenericParamConstraint = refl

-- no table has more than nine columns
few_in : (table : Table) → length (columns_of table) ≤ 9
few_in tables.Module = omega arith
few_in tables.TypeRef = omega arith
few_in tables.TypeDef = omega arith
few_in tables.Field = omega arith
few_in tables.MethodDef = omega arith
few_in tables.Param = omega arith
few_in tables.InterfaceImpl = omega arith
few_in tables.MemberRef = omega arith
few_in tables.Constant = omega arith
few_in tables.CustomAttribute = omega arith
few_in tables.FieldMarshal = omega arith
few_in tables.DeclSecurity = omega arith
few_in tables.ClassLayout = omega arith
few_in tables.FieldLayout = omega arith
few_in tables.StandAloneSig = omega arith
few_in tables.EventMap = omega arith
few_in tables.Event = omega arith
few_in tables.PropertyMap = omega arith
few_in tables.Property = omega arith
few_in tables.MethodSemantics = omega arith
few_in tables.MethodImpl = omega arith
few_in tables.ModuleRef = omega arith
few_in tables.TypeSpec = omega arith
few_in tables.ImplMap = omega arith
few_in tables.FieldRva = omega arith
few_in tables.Assembly = omega arith
few_in tables.AssemblyProcessor = omega arith
few_in tables.AssemblyOs = omega arith
few_in tables.AssemblyRef = omega arith
few_in tables.AssemblyRefProcessor = omega arith
few_in tables.AssemblyRefOs = omega arith
few_in tables.File = omega arith
few_in tables.ExportedType = omega arith
few_in tables.ManifestResource = omega arith
few_in tables.NestedClass = omega arith
few_in tables.GenericParam = omega arith
few_in tables.MethodSpec = omega arith
few_in tables.GenericParamConstraint = omega arith

pub few_columns : (sizes : Sizes) (table : Table) → length (widths_of sizes table) ≤ 9
few_columns sizes table = subst (λ n. n ≤ 9) (sym (length-map (columns_of table) (width_of sizes))) (few_in table)

pub at_place_list : (f : Table → List ℕ) (table : Table) → get_or (map f all_tables) (place_of table) [] ≡ f table
at_place_list f tables.Module = refl
at_place_list f tables.TypeRef = refl
at_place_list f tables.TypeDef = refl
at_place_list f tables.Field = refl
at_place_list f tables.MethodDef = refl
at_place_list f tables.Param = refl
at_place_list f tables.InterfaceImpl = refl
at_place_list f tables.MemberRef = refl
at_place_list f tables.Constant = refl
at_place_list f tables.CustomAttribute = refl
at_place_list f tables.FieldMarshal = refl
at_place_list f tables.DeclSecurity = refl
at_place_list f tables.ClassLayout = refl
at_place_list f tables.FieldLayout = refl
at_place_list f tables.StandAloneSig = refl
at_place_list f tables.EventMap = refl
at_place_list f tables.Event = refl
at_place_list f tables.PropertyMap = refl
at_place_list f tables.Property = refl
at_place_list f tables.MethodSemantics = refl
at_place_list f tables.MethodImpl = refl
at_place_list f tables.ModuleRef = refl
at_place_list f tables.TypeSpec = refl
at_place_list f tables.ImplMap = refl
at_place_list f tables.FieldRva = refl
at_place_list f tables.Assembly = refl
at_place_list f tables.AssemblyProcessor = refl
at_place_list f tables.AssemblyOs = refl
at_place_list f tables.AssemblyRef = refl
at_place_list f tables.AssemblyRefProcessor = refl
at_place_list f tables.AssemblyRefOs = refl
at_place_list f tables.File = refl
at_place_list f tables.ExportedType = refl
at_place_list f tables.ManifestResource = refl
at_place_list f tables.NestedClass = refl
at_place_list f tables.GenericParam = refl
at_place_list f tables.MethodSpec = refl
at_place_list f tables.GenericParamConstraint = refl

-- where a cell stands, as a number that isn't large
pub low_place : (start above width left : ℕ) → start < 2 ^ 50 → above < 2 ^ 32 → width ≤ 36 → left ≤ 36 → start + above * width + left < 2 ^ 51
low_place start above width left low few narrow before =
    let h : above * width ≤ 4294967296 * 36 = mul-le above width 4294967296 36 (omega arith) narrow in
    omega (arith, low, before, h)
