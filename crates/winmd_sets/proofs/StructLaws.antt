-- Reading the rows of a struct gives it.
use Rattle.std.proofs.Common.{◌≡◌, ℕ, suc, ◌^◌, ◌<◌, ◌≤◌, true, false, leb, List, [], ◌∷◌, length, get_or, map, Some, Ok, refl, ap}
use Rattle.std.specs.Prelude.{◌==◌, bytes_eq, codes}
use Rattle.std.specs.List.{list_any, AllByRecursion}
use Rattle.std.proofs.Math.Dec.{eqb-suc-zero}
use Rattle.std.proofs.lemmas.Bool.{le-leb}
use Rattle.md_schema.specs.declared.table.Table.TheVariants as tables
use Rattle.wr_base.specs.Paths.{is_identifier}
use Rattle.winmd_rows.specs.Faults.{each}
use Rattle.winmd_rows.specs.Values.{Offsets, stated_row}
use Rattle.winmd_lines.specs.Lines.{Line}
use Rattle.winmd_sets.specs.Declared.{own_line, body_lines, version_of_type}
use Rattle.winmd_lines.specs.Makers.{Maker}
use Rattle.winmd_sets.specs.Members.{struct_field}
use Rattle.winmd_lines.specs.Names.{Names, Counts, none, behind, written, place}
use Rattle.winmd_lines.specs.Positions.{behind_all, owned}
use Rattle.winmd_lines.specs.Cells.{Tables, at, numbered}
use Rattle.winmd_sets.specs.Types.{type_of}
use Rattle.winmd_sets.specs.Fields as reading
use Rattle.winmd_sets.specs.Rows.{all_lines}
use Rattle.wr_base.specs.Trees.{DeclTree, struct, FieldTree}
use Rattle.winmd_sets.proofs.AttributeLaws.{tables_of, MakerOk, made, attribute_is, attributes_are}
use Rattle.winmd_lines.proofs.OwnerLaws.{no_rows}
use Rattle.winmd_lines.proofs.LineLaws.{row_of, list_is}
use Rattle.winmd_sets.proofs.BlobLaws.{field_again}
use Rattle.winmd_sets.proofs.TypeLaws.{Stands_, NameOk, base_read, none_written, version_read}
use Rattle.winmd_sets.proofs.BlobLaws.{UseOk}
use Rattle.winmd_sets.specs.Values.{number_argument}

pub record FieldOk (t : Tables) (names : Names) (f : FieldTree) : Type 0 where
  pub named : is_identifier f.name ≡ true
  pub short : length f.name ≤ 255
  pub type_ok : UseOk t names 16 f.kind

pub record StructOk (t : Tables) (names : Names) (name : List ℕ) (version : ℕ) (fs : List FieldTree) : Type 0 where
  pub named : NameOk name
  pub numbered_ : version < 2 ^ 32
  pub few : length fs ≤ 4000
  pub fields : AllByRecursion (FieldOk t names) fs
  pub base : list_any (bytes_eq (codes "System.ValueType")) names.refs ≡ true
  pub version_made : MakerOk names Maker.Version

fields_read : (t : Tables) (names : Names) (before : Counts) (n : ℕ) (fs : List FieldTree) → AllByRecursion (FieldOk t names) fs
    → each (reading.struct_field t) (numbered n (map stated_row (written names before (map struct_field fs) tables.Field))) ≡ Ok fs
fields_read t names before n [] h = refl
fields_read t names before n (f ∷ fs) h =
    let short : leb (length f.name) 255 ≡ true = le-leb _ _ h.0.short in
    let kind = field_again t names (at t tables.Field n 2) f.kind h.0.type_ok in
    let rest = fields_read t names (behind before (struct_field f)) (suc n) fs h.1 in
    rw (h.0.named, short, kind, rest) refl

owned_fields : (names : Names) (before : Counts) (fs : List FieldTree) → owned names before tables.CustomAttribute 0 tables.TypeDef (map struct_field fs) ≡ []
owned_fields names before [] = refl
owned_fields names before (f ∷ fs) = owned_fields names (behind before (struct_field f)) fs

pub struct_type : (names : Names) (ds : List DeclTree) (offset : Offsets) (pre : List Line) (name : List ℕ) (version : ℕ) (fs : List FieldTree) (post : List Line) → StructOk (tables_of names ds offset) names name version fs
    → Stands_ names ds pre (struct name version fs) post
    → type_of (tables_of names ds offset) (suc (behind_all none pre tables.TypeDef), row_of names (behind_all none pre) (own_line (struct name version fs))) ≡ Ok (Some (suc (behind_all none pre tables.TypeDef), struct name version fs))
struct_type names ds offset pre name version fs post h s =
    let t : Tables = tables_of names ds offset in
    let d : DeclTree = struct name version fs in
    let before : Counts = behind_all none pre in
    let after : Counts = behind before (own_line d) in
    let n : ℕ = suc (before tables.TypeDef) in
    let base = base_read names ds offset (codes "System.ValueType") (at t tables.TypeDef n 3) h.base refl in
    let some : (suc (place (bytes_eq (codes "System.ValueType")) names.refs) == 0) ≡ false = eqb-suc-zero (place (bytes_eq (codes "System.ValueType")) names.refs) in
    let inner = no_rows t tables.NestedClass 0 tables.TypeDef n (ap (map stated_row) (none_written names none (all_lines names ds) tables.NestedClass s.nested)) in
    let found = attributes_are names ds offset pre (own_line d) (body_lines d) post tables.TypeDef (record { is = refl }) s.split refl refl s.attributes_owned s.alone s.attributes_next in
    let none_more = owned_fields names (behind after (version_of_type version)) fs in
    let c = made names ds offset Maker.Version h.version_made in
    let k : ℕ = get_or found.0 0 0 in
    let va = attribute_is t names after tables.TypeDef Maker.Version (number_argument version) k c in
    let v = version_read t names after version k n c h.numbered_ in
    let list = list_is t names (all_lines names ds) pre (own_line d) (body_lines d) post tables.TypeDef 4 tables.Field (record { is = refl }) (record { is = refl }) s.split refl refl refl s.alone s.fields_next in
    let fields = fields_read t names (behind after (version_of_type version)) (suc (before tables.Field)) fs h.fields in
    let few : leb (length fs) 4000 ≡ true = le-leb _ _ h.few in
    rw (h.named.parts, h.named.plain, some, base, inner, h.named.path (at t tables.TypeDef n 1), found.1, none_more, va, v, list, fields, few) refl
