-- The image of one struct is strict.
use Rattle.std.proofs.Common.{◌≡◌, ℕ, zero, suc, ◌<◌, ◌^◌, true, List, [], ◌∷◌, length, Ok, refl, arith}
use Rattle.std.specs.Prelude.{codes, nat_lt}
use Rattle.std.specs.List.{AllByRecursion, list_all}
use Rattle.std.specs.Str.{IsAscii, is_utf8}
use Rattle.std.proofs.lemmas.Bool.{and_parts, ltb-true}
use Rattle.std.proofs.lemmas.Str.{IsUtf8-from_ascii, is_utf8-from_IsUtf8}
use Rattle.md_bytes.specs.Padding.{zeros}
use Rattle.md_schema.specs.declared.table.Table.{Table}
use Rattle.md_schema.specs.declared.table.Table.TheVariants as tables
use Rattle.md_schema.specs.Tables.{widths_of}
use Rattle.md_schema.specs.Widths.{count_of}
use Rattle.md_schema.specs.Written.{RowFits, table_head}
use Rattle.winmd_sets.specs.Rows.{rows_of}
use Rattle.winmd_strict.specs.One.{one_heaps, one_numbers, one_sizes, one_image}
use Rattle.winmd_strict.specs.Placed.{HoldsCell}
use Rattle.winmd_sets.specs.Fits.{Fits}
use Rattle.winmd_strict.specs.Reading.{TypesOf}
use Rattle.winmd_strict.specs.Strict.{Strict}
use Rattle.winmd_strict.proofs.StrictLaws.{strict_states}
use Rattle.winmd_strict.specs.Wrong.{one}

ascii_of : (bytes : List ℕ) → list_all (λ b. nat_lt b 128) bytes ≡ true → IsAscii bytes
ascii_of [] h i = omega arith
ascii_of (b ∷ bytes) h zero = (let both = and_parts (nat_lt b 128) (list_all (λ c. nat_lt c 128) bytes) h in ltb-true b 128 both.0)
ascii_of (b ∷ bytes) h (suc i) = (let both = and_parts (nat_lt b 128) (list_all (λ c. nat_lt c 128) bytes) h in ascii_of bytes both.1 i)

ascii_utf8 : (bytes : List ℕ) → list_all (λ b. nat_lt b 128) bytes ≡ true → is_utf8 bytes ≡ true
ascii_utf8 bytes h = is_utf8-from_IsUtf8 bytes (IsUtf8-from_ascii bytes (ascii_of bytes h))

one_cells : (table : Table) → AllByRecursion (AllByRecursion (HoldsCell one_heaps)) (rows_of one table)
one_cells tables.Module = ((tt, ((let u = ascii_utf8 (codes "types.winmd") refl in rw u refl), (tt, (tt, (tt, tt))))), tt)
one_cells tables.TypeRef = ((tt, ((let u = ascii_utf8 (codes "ValueType") refl in rw u refl), ((let u = ascii_utf8 (codes "System") refl in rw u refl), tt))), ((tt, ((let u = ascii_utf8 (codes "VersionAttribute") refl in rw u refl), ((let u = ascii_utf8 (codes "Windows.Foundation.Metadata") refl in rw u refl), tt))), tt))
one_cells tables.TypeDef = ((tt, ((let u = ascii_utf8 (codes "<Module>") refl in rw u refl), ((let u = ascii_utf8 [] refl in rw u refl), (tt, (tt, (tt, tt)))))), ((tt, ((let u = ascii_utf8 (codes "B") refl in rw u refl), ((let u = ascii_utf8 (codes "A") refl in rw u refl), (tt, (tt, (tt, tt)))))), tt))
one_cells tables.Field = ((tt, ((let u = ascii_utf8 (codes "X") refl in rw u refl), (record { small = omega arith; stands = refl }, tt))), tt)
one_cells tables.MethodDef = tt
one_cells tables.Param = tt
one_cells tables.InterfaceImpl = tt
one_cells tables.MemberRef = ((tt, ((let u = ascii_utf8 (codes ".ctor") refl in rw u refl), (record { small = omega arith; stands = refl }, tt))), tt)
one_cells tables.Constant = tt
one_cells tables.CustomAttribute = ((tt, (tt, (record { small = omega arith; stands = refl }, tt))), tt)
one_cells tables.FieldMarshal = tt
one_cells tables.DeclSecurity = tt
one_cells tables.ClassLayout = tt
one_cells tables.FieldLayout = tt
one_cells tables.StandAloneSig = tt
one_cells tables.EventMap = tt
one_cells tables.Event = tt
one_cells tables.PropertyMap = tt
one_cells tables.Property = tt
one_cells tables.MethodSemantics = tt
one_cells tables.MethodImpl = tt
one_cells tables.ModuleRef = tt
one_cells tables.TypeSpec = tt
one_cells tables.ImplMap = tt
one_cells tables.FieldRva = tt
one_cells tables.Assembly = ((tt, (tt, (tt, (tt, (tt, (tt, (record { small = omega arith; stands = refl }, ((let u = ascii_utf8 (codes "types") refl in rw u refl), ((let u = ascii_utf8 [] refl in rw u refl), tt))))))))), tt)
one_cells tables.AssemblyProcessor = tt
one_cells tables.AssemblyOs = tt
one_cells tables.AssemblyRef = ((tt, (tt, (tt, (tt, (tt, (record { small = omega arith; stands = refl }, ((let u = ascii_utf8 (codes "mscorlib") refl in rw u refl), ((let u = ascii_utf8 [] refl in rw u refl), (record { small = omega arith; stands = refl }, tt))))))))), ((tt, (tt, (tt, (tt, (tt, (record { small = omega arith; stands = refl }, ((let u = ascii_utf8 (codes "Windows.Foundation.FoundationContract") refl in rw u refl), ((let u = ascii_utf8 [] refl in rw u refl), (record { small = omega arith; stands = refl }, tt))))))))), tt))
one_cells tables.AssemblyRefProcessor = tt
one_cells tables.AssemblyRefOs = tt
one_cells tables.File = tt
one_cells tables.ExportedType = tt
one_cells tables.ManifestResource = tt
one_cells tables.NestedClass = tt
one_cells tables.GenericParam = tt
one_cells tables.MethodSpec = tt
one_cells tables.GenericParamConstraint = tt

one_counts : (table : Table) → count_of one_sizes table ≡ length (one_numbers table)
one_counts tables.Module = refl
one_counts tables.TypeRef = refl
one_counts tables.TypeDef = refl
one_counts tables.Field = refl
one_counts tables.MethodDef = refl
one_counts tables.Param = refl
one_counts tables.InterfaceImpl = refl
one_counts tables.MemberRef = refl
one_counts tables.Constant = refl
one_counts tables.CustomAttribute = refl
one_counts tables.FieldMarshal = refl
one_counts tables.DeclSecurity = refl
one_counts tables.ClassLayout = refl
one_counts tables.FieldLayout = refl
one_counts tables.StandAloneSig = refl
one_counts tables.EventMap = refl
one_counts tables.Event = refl
one_counts tables.PropertyMap = refl
one_counts tables.Property = refl
one_counts tables.MethodSemantics = refl
one_counts tables.MethodImpl = refl
one_counts tables.ModuleRef = refl
one_counts tables.TypeSpec = refl
one_counts tables.ImplMap = refl
one_counts tables.FieldRva = refl
one_counts tables.Assembly = refl
one_counts tables.AssemblyProcessor = refl
one_counts tables.AssemblyOs = refl
one_counts tables.AssemblyRef = refl
one_counts tables.AssemblyRefProcessor = refl
one_counts tables.AssemblyRefOs = refl
one_counts tables.File = refl
one_counts tables.ExportedType = refl
one_counts tables.ManifestResource = refl
one_counts tables.NestedClass = refl
one_counts tables.GenericParam = refl
one_counts tables.MethodSpec = refl
one_counts tables.GenericParamConstraint = refl

one_fit : (table : Table) → AllByRecursion (RowFits (widths_of one_sizes table)) (one_numbers table)
unfolding zeros
one_fit tables.Module = ((omega arith, (omega arith, (omega arith, (omega arith, (omega arith, refl))))), tt)
one_fit tables.TypeRef = ((omega arith, (omega arith, (omega arith, refl))), ((omega arith, (omega arith, (omega arith, refl))), tt))
one_fit tables.TypeDef = ((omega arith, (omega arith, (omega arith, (omega arith, (omega arith, (omega arith, refl)))))), ((omega arith, (omega arith, (omega arith, (omega arith, (omega arith, (omega arith, refl)))))), tt))
one_fit tables.Field = ((omega arith, (omega arith, (omega arith, refl))), tt)
one_fit tables.MethodDef = tt
one_fit tables.Param = tt
one_fit tables.InterfaceImpl = tt
one_fit tables.MemberRef = ((omega arith, (omega arith, (omega arith, refl))), tt)
one_fit tables.Constant = tt
one_fit tables.CustomAttribute = ((omega arith, (omega arith, (omega arith, refl))), tt)
one_fit tables.FieldMarshal = tt
one_fit tables.DeclSecurity = tt
one_fit tables.ClassLayout = tt
one_fit tables.FieldLayout = tt
one_fit tables.StandAloneSig = tt
one_fit tables.EventMap = tt
one_fit tables.Event = tt
one_fit tables.PropertyMap = tt
one_fit tables.Property = tt
one_fit tables.MethodSemantics = tt
one_fit tables.MethodImpl = tt
one_fit tables.ModuleRef = tt
one_fit tables.TypeSpec = tt
one_fit tables.ImplMap = tt
one_fit tables.FieldRva = tt
one_fit tables.Assembly = ((omega arith, (omega arith, (omega arith, (omega arith, (omega arith, (omega arith, (omega arith, (omega arith, (omega arith, refl))))))))), tt)
one_fit tables.AssemblyProcessor = tt
one_fit tables.AssemblyOs = tt
one_fit tables.AssemblyRef = ((omega arith, (omega arith, (omega arith, (omega arith, (omega arith, (omega arith, (omega arith, (omega arith, (omega arith, refl))))))))), ((omega arith, (omega arith, (omega arith, (omega arith, (omega arith, (omega arith, (omega arith, (omega arith, (omega arith, refl))))))))), tt))
one_fit tables.AssemblyRefProcessor = tt
one_fit tables.AssemblyRefOs = tt
one_fit tables.File = tt
one_fit tables.ExportedType = tt
one_fit tables.ManifestResource = tt
one_fit tables.NestedClass = tt
one_fit tables.GenericParam = tt
one_fit tables.MethodSpec = tt
one_fit tables.GenericParamConstraint = tt

few_rows : AllByRecursion (λ n. n < 2 ^ 32) one_sizes.rows
few_rows = (omega arith, (omega arith, (omega arith, (omega arith, (omega arith, (omega arith, (omega arith, (omega arith, (omega arith, (omega arith, (omega arith, (omega arith, (omega arith, (omega arith, (omega arith, (omega arith, (omega arith, (omega arith, (omega arith, (omega arith, (omega arith, (omega arith, (omega arith, (omega arith, (omega arith, (omega arith, (omega arith, (omega arith, (omega arith, (omega arith, (omega arith, (omega arith, (omega arith, (omega arith, (omega arith, (omega arith, (omega arith, (omega arith, (omega arith, (omega arith, (omega arith, (omega arith, (omega arith, (omega arith, (omega arith, tt)))))))))))))))))))))))))))))))))))))))))))))

pub one_strict : Strict one_image
unfolding zeros table_head
one_strict = record {
  declared = one;
  ordered = tt;
  heaps = one_heaps;
  holds = record { texts = refl; blobs = refl; cells = one_cells };
  spelled = refl;
  columns = record { many = refl; small = few_rows; counts = one_counts; fits = one_fit };
  small = omega arith;
}

one_fits : Fits one
one_fits = record {
  each = (record { named = record { path = refl; short = refl }; numbered = omega arith; few = omega arith; fields = (record { named = record { identifier = refl; short = omega arith }; kind = tt }, tt) }, tt);
  set = (omega arith, omega arith, refl, tt);
  names = record { refs = omega arith; types = omega arith };
}

pub one_read : TypesOf one_image ≡ Ok one
unfolding one_strict zeros table_head
one_read = strict_states one_image one_strict one_fits
