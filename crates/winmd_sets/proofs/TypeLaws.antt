-- Reading the row of a declaration, with what belongs to it, gives the declaration.
use Rattle.std.proofs.Common.{◌≡◌, ℕ, suc, ◌^◌, ◌<◌, ◌≤◌, Bool, true, false, leb, List, [], ◌∷◌, ◌++◌, length, drop, get_or, map, Some, Ok, refl, ap}
use Rattle.std.specs.Prelude.{◌==◌, bytes_eq, codes}
use Rattle.std.specs.List.{flat_map, list_any, AllByRecursion}
use Rattle.std.proofs.Math.Dec.{eqb-suc-zero}
use Rattle.std.proofs.lemmas.Bool.{le-leb}
use Rattle.md_schema.specs.declared.table.Table.{Table}
use Rattle.md_schema.specs.declared.table.Table.TheVariants as tables
use Rattle.wr_base.specs.Parts.{behind_last}
use Rattle.wr_base.specs.declared.declaration.Case.{Case}
use Rattle.winmd_rows.specs.Values.{Value, Offsets, stated_row}
use Rattle.winmd_lines.specs.Lines.{Line}
use Rattle.winmd_sets.specs.Declared.{own_line, body_lines}
use Rattle.winmd_lines.specs.Makers.{Maker}
use Rattle.winmd_sets.specs.Members.{attribute, case_lines}
use Rattle.winmd_lines.specs.Names.{Names, Counts, none, behind, written, place}
use Rattle.winmd_lines.specs.Positions.{behind_all, NoneIn, Carries, Apart, AllOwned, owned}
use Rattle.winmd_lines.specs.Cells.{Tables, at, named_at}
use Rattle.winmd_sets.specs.Attributes.{Attribute, version_of}
use Rattle.winmd_sets.specs.Types.{type_of}
use Rattle.winmd_sets.specs.Rows.{made_lines, own_lines, all_lines}
use Rattle.wr_base.specs.Trees.{DeclTree, enum}
use Rattle.winmd_sets.proofs.AttributeLaws.{tables_of, MakerOk, Made, made, attribute_is, attributes_are}
use Rattle.winmd_sets.proofs.EnumLaws.{CaseOk, enum_head, enum_read}
use Rattle.winmd_lines.proofs.LineLaws.{row_of}
use Rattle.winmd_sets.proofs.NameLaws.{TwoParts, ref_named}
use Rattle.winmd_lines.proofs.OwnerLaws.{no_rows}
use Rattle.winmd_sets.proofs.BlobLaws.{IsPath}
use Rattle.winmd_sets.specs.Values.{number_argument}
use Rattle.winmd_sets.proofs.ArgumentLaws.{number_read}

-- ---- what holds of each declaration that can be written

pub record NameOk (full : List ℕ) : Type 0 where
  pub parts : TwoParts full
  pub path : IsPath full
  pub plain : bytes_eq (behind_last 46 full) (codes "<Module>") ≡ false

-- a declaration stands in a set
pub record Stands_ (names : Names) (ds : List DeclTree) (pre : List Line) (d : DeclTree) (post : List Line) : Type 0 where
  pub split : all_lines names ds ≡ pre ++ own_line d ∷ (body_lines d ++ post)
  pub alone : NoneIn tables.TypeDef (body_lines d)
  pub fields_next : Carries tables.TypeDef 4 tables.Field post
  pub methods_next : Carries tables.TypeDef 5 tables.MethodDef post
  pub attributes_next : Apart tables.CustomAttribute 0 tables.TypeDef post
  pub attributes_owned : AllOwned tables.CustomAttribute 0 (all_lines names ds)
  pub constants_next : Apart tables.Constant 2 tables.Field post
  pub constants_owned : AllOwned tables.Constant 2 (all_lines names ds)
  pub overloads_next : Apart tables.CustomAttribute 0 tables.MethodDef post
  pub params_next : Carries tables.MethodDef 5 tables.Param post
  pub nested : NoneIn tables.NestedClass (all_lines names ds)
  pub interfaces_next : Apart tables.InterfaceImpl 0 tables.TypeDef post
  pub interfaces_owned_ : AllOwned tables.InterfaceImpl 0 (all_lines names ds)
  pub defaults_next : Apart tables.CustomAttribute 0 tables.InterfaceImpl post
  pub semantics_next : Apart tables.MethodSemantics 1 tables.MethodDef post
  pub semantics_owned : AllOwned tables.MethodSemantics 1 (all_lines names ds)

pub none_written : (names : Names) (before : Counts) (ls : List Line) (table : Table) → NoneIn table ls → written names before ls table ≡ []
none_written names before [] table h = refl
none_written names before (l ∷ ls) table h = rw h.0 (none_written names (behind before l) ls table h.1)

pub base_read : (names : Names) (ds : List DeclTree) (offset : Offsets) (full : List ℕ) (o : ℕ) → list_any (bytes_eq full) names.refs ≡ true → TwoParts full
    → named_at (tables_of names ds offset) o (Value.To tables.TypeRef (suc (place (bytes_eq full) names.refs))) ≡ Ok full
base_read names ds offset full o among parts = ref_named (tables_of names ds offset) names (all_lines names ds) (made_lines names.specs names.makers ++ own_lines ds) full o (record { is = refl }) refl among parts

owned_cases : (names : Names) (before : Counts) (name : List ℕ) (flags : Bool) (cs : List Case) → owned names before tables.CustomAttribute 0 tables.TypeDef (flat_map (case_lines name flags) cs) ≡ []
owned_cases names before name flags [] = refl
owned_cases names before name flags (c ∷ cs) = owned_cases names (behind_all before (case_lines name flags c)) name flags cs

-- the version among attributes
pub version_read : (t : Tables) (names : Names) (before : Counts) (version k n : ℕ) (c : Made t names Maker.Version) → version < 2 ^ 32
    → version_of t n ((record { made = c.it; row = (k, row_of names before (attribute tables.TypeDef Maker.Version (number_argument version))) }) ∷ []) ≡ Ok version
version_read t names before version k n c v = rw c.typed (number_read (at t tables.CustomAttribute k 2) version [] v)

flags_and_version : (t : Tables) (names : Names) (before after : Counts) (version k j n : ℕ) (f : Made t names Maker.Flags) (c : Made t names Maker.Version) → version < 2 ^ 32
    → version_of t n ((record { made = f.it; row = (j, row_of names before (attribute tables.TypeDef Maker.Flags [])) }) ∷ (record { made = c.it; row = (k, row_of names after (attribute tables.TypeDef Maker.Version (number_argument version))) }) ∷ []) ≡ Ok version
flags_and_version t names before after version k j n f c v = rw (f.typed, c.typed) (number_read (at t tables.CustomAttribute k 2) version [] v)

pub record EnumOk (names : Names) (name : List ℕ) (version : ℕ) (flags : Bool) (cs : List Case) : Type 0 where
  pub named : NameOk name
  pub numbered : version < 2 ^ 32
  pub few : length cs ≤ 4000
  pub cases : AllByRecursion (CaseOk flags) cs
  pub base : list_any (bytes_eq (codes "System.Enum")) names.refs ≡ true
  pub version_made : MakerOk names Maker.Version
  pub flags_made : flags ≡ true → MakerOk names Maker.Flags

pub enum_type : (names : Names) (ds : List DeclTree) (offset : Offsets) (pre : List Line) (name : List ℕ) (version : ℕ) (flags : Bool) (cs : List Case) (post : List Line) → EnumOk names name version flags cs
    → Stands_ names ds pre (enum name version flags cs) post
    → type_of (tables_of names ds offset) (suc (behind_all none pre tables.TypeDef), row_of names (behind_all none pre) (own_line (enum name version flags cs))) ≡ Ok (Some (suc (behind_all none pre tables.TypeDef), enum name version flags cs))
enum_type names ds offset pre name version true cs post h s =
    let t : Tables = tables_of names ds offset in
    let d : DeclTree = enum name version true cs in
    let before : Counts = behind_all none pre in
    let after : Counts = behind before (own_line d) in
    let n : ℕ = suc (before tables.TypeDef) in
    let base = base_read names ds offset (codes "System.Enum") (at t tables.TypeDef n 3) h.base refl in
    let some : (suc (place (bytes_eq (codes "System.Enum")) names.refs) == 0) ≡ false = eqb-suc-zero (place (bytes_eq (codes "System.Enum")) names.refs) in
    let inner = no_rows t tables.NestedClass 0 tables.TypeDef n (ap (map stated_row) (none_written names none (all_lines names ds) tables.NestedClass s.nested)) in
    let found = attributes_are names ds offset pre (own_line d) (body_lines d) post tables.TypeDef (record { is = refl }) s.split refl refl s.attributes_owned s.alone s.attributes_next in
    let fl = attribute tables.TypeDef Maker.Flags [] in
    let ve = attribute tables.TypeDef Maker.Version (number_argument version) in
    let none_more = owned_cases names (behind_all after (enum_head version true)) name true cs in
    let f = made names ds offset Maker.Flags (h.flags_made refl) in
    let c = made names ds offset Maker.Version h.version_made in
    let j : ℕ = get_or found.0 0 0 in
    let k : ℕ = get_or (drop 1 found.0) 0 0 in
    let fa = attribute_is t names after tables.TypeDef Maker.Flags [] j f in
    let va = attribute_is t names (behind after fl) tables.TypeDef Maker.Version (number_argument version) k c in
    let v = flags_and_version t names after (behind after fl) version k j n f c h.numbered in
    let attributes : List Attribute = (record { made = f.it; row = (j, row_of names after fl) }) ∷ (record { made = c.it; row = (k, row_of names (behind after fl) ve) }) ∷ [] in
    let read = enum_read names ds offset pre name version true cs post attributes s.split s.alone s.fields_next h.cases s.constants_owned s.constants_next v in
    let few : leb (length cs) 4000 ≡ true = le-leb _ _ h.few in
    rw (h.named.parts, h.named.plain, some, base, inner, h.named.path (at t tables.TypeDef n 1), found.1, none_more, fa, va, read, few) refl
enum_type names ds offset pre name version false cs post h s =
    let t : Tables = tables_of names ds offset in
    let d : DeclTree = enum name version false cs in
    let before : Counts = behind_all none pre in
    let after : Counts = behind before (own_line d) in
    let n : ℕ = suc (before tables.TypeDef) in
    let base = base_read names ds offset (codes "System.Enum") (at t tables.TypeDef n 3) h.base refl in
    let some : (suc (place (bytes_eq (codes "System.Enum")) names.refs) == 0) ≡ false = eqb-suc-zero (place (bytes_eq (codes "System.Enum")) names.refs) in
    let inner = no_rows t tables.NestedClass 0 tables.TypeDef n (ap (map stated_row) (none_written names none (all_lines names ds) tables.NestedClass s.nested)) in
    let found = attributes_are names ds offset pre (own_line d) (body_lines d) post tables.TypeDef (record { is = refl }) s.split refl refl s.attributes_owned s.alone s.attributes_next in
    let ve = attribute tables.TypeDef Maker.Version (number_argument version) in
    let none_more = owned_cases names (behind_all after (enum_head version false)) name false cs in
    let c = made names ds offset Maker.Version h.version_made in
    let k : ℕ = get_or found.0 0 0 in
    let va = attribute_is t names after tables.TypeDef Maker.Version (number_argument version) k c in
    let v = version_read t names after version k n c h.numbered in
    let attributes : List Attribute = (record { made = c.it; row = (k, row_of names after ve) }) ∷ [] in
    let read = enum_read names ds offset pre name version false cs post attributes s.split s.alone s.fields_next h.cases s.constants_owned s.constants_next v in
    let few : leb (length cs) 4000 ≡ true = le-leb _ _ h.few in
    rw (h.named.parts, h.named.plain, some, base, inner, h.named.path (at t tables.TypeDef n 1), found.1, none_more, va, read, few) refl
