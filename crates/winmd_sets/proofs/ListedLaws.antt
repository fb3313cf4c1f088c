-- The interfaces of a type are read from their rows, in the order in which these stand.
use Rattle.std.proofs.Common.{◌≡◌, ℕ, suc, List, [], ◌∷◌, ◌++◌, map, Option, Ok, refl, sym, ap, ◌∙◌, inl, inr}
use Rattle.std.specs.List.{flat_map, AllByRecursion}
use Rattle.md_schema.specs.declared.table.Table.{Table}
use Rattle.md_schema.specs.declared.table.Table.TheVariants as tables
use Rattle.winmd_rows.specs.Faults.{each, ◌>>=◌}
use Rattle.winmd_rows.specs.Values.{Value, Offsets, stated_row}
use Rattle.winmd_lines.specs.Lines.{Line}
use Rattle.winmd_sets.specs.Declared.{own_line, body_lines, interface_line, class_interface, is_default}
use Rattle.winmd_lines.specs.Names.{Names, Counts, none, behind, written, type_value}
use Rattle.winmd_lines.specs.Positions.{behind_all, NoneIn, owned}
use Rattle.winmd_lines.specs.Cells.{Numbered, Tables, at, numbered}
use Rattle.winmd_sets.specs.Uses.{use_in}
use Rattle.winmd_sets.specs.Interfaces.{interfaces_of}
use Rattle.winmd_sets.specs.Rows.{all_lines}
use Rattle.wr_base.specs.Trees.{DeclTree, UseTree}
use Rattle.winmd_sets.proofs.AttributeLaws.{tables_of}
use Rattle.winmd_lines.proofs.LineLaws.{either}
use Rattle.winmd_sets.proofs.MemberLaws.{CellOk}
use Rattle.winmd_lines.proofs.OwnerLaws.{owned_numbered}
use Rattle.winmd_sets.proofs.TypeLaws.{Stands_, none_written}

-- the rows of interfaces of the type of this number
abbrev pub interface_rows : Names → ℕ → List UseTree → List (List Value)
interface_rows names n [] = []
interface_rows names n (u ∷ us) = (Value.To tables.TypeDef n ∷ type_value names u ∷ []) ∷ interface_rows names n us

-- uses with the numbers of their rows
abbrev pub tagged_uses : ℕ → List UseTree → List (ℕ × UseTree)
tagged_uses k [] = []
tagged_uses k (u ∷ us) = (k, u) ∷ tagged_uses (suc k) us

pub uses_tagged : (k : ℕ) (us : List UseTree) → map (λ (entry : ℕ × UseTree). entry.1) (tagged_uses k us) ≡ us
uses_tagged k [] = refl
uses_tagged k (u ∷ us) = ap (λ (x : List UseTree). u ∷ x) (uses_tagged (suc k) us)

-- lines of other tables belong to none
pub owned_nothing : (names : Names) (before : Counts) (ls : List Line) (keyed : Table) (column : ℕ) (owner : Table) → NoneIn keyed ls → owned names before keyed column owner ls ≡ []
owned_nothing names before [] keyed column owner h = refl
owned_nothing names before (l ∷ ls) keyed column owner h = rw h.0 (owned_nothing names (behind before l) ls keyed column owner h.1)

pub requires_owned : (names : Names) (b : Counts) (us : List UseTree) (rest : List Line) → NoneIn tables.InterfaceImpl rest
    → owned names b tables.InterfaceImpl 0 tables.TypeDef (map interface_line us ++ rest) ≡ interface_rows names (b tables.TypeDef) us
requires_owned names b [] rest h = owned_nothing names b rest tables.InterfaceImpl 0 tables.TypeDef h
requires_owned names b (u ∷ us) rest h = ap (λ (x : List (List Value)). (Value.To tables.TypeDef (b tables.TypeDef) ∷ type_value names u ∷ []) ∷ x) (requires_owned names (behind b (interface_line u)) us rest h)

pub requires_written : (names : Names) (b : Counts) (us : List UseTree) (rest : List Line) → NoneIn tables.InterfaceImpl rest
    → written names b (map interface_line us ++ rest) tables.InterfaceImpl ≡ interface_rows names (b tables.TypeDef) us
requires_written names b [] rest h = none_written names b rest tables.InterfaceImpl h
requires_written names b (u ∷ us) rest h = ap (λ (x : List (List Value)). (Value.To tables.TypeDef (b tables.TypeDef) ∷ type_value names u ∷ []) ∷ x) (requires_written names (behind b (interface_line u)) us rest h)

pub has_owned : (names : Names) (b : Counts) (default : Option UseTree) (us : List UseTree) (rest : List Line) → NoneIn tables.InterfaceImpl rest
    → owned names b tables.InterfaceImpl 0 tables.TypeDef (flat_map (class_interface default) us ++ rest) ≡ interface_rows names (b tables.TypeDef) us
has_owned names b default [] rest h = owned_nothing names b rest tables.InterfaceImpl 0 tables.TypeDef h
has_owned names b default (u ∷ us) rest h =
    let next = λ (c : Counts). has_owned names c default us rest h in
    elim (either (is_default default u)) [
      | inl e ↦ rw e (ap (λ (x : List (List Value)). (Value.To tables.TypeDef (b tables.TypeDef) ∷ type_value names u ∷ []) ∷ x) (next _))
      | inr e ↦ rw e (ap (λ (x : List (List Value)). (Value.To tables.TypeDef (b tables.TypeDef) ∷ type_value names u ∷ []) ∷ x) (next _))
    ]

pub has_written : (names : Names) (b : Counts) (default : Option UseTree) (us : List UseTree) (rest : List Line) → NoneIn tables.InterfaceImpl rest
    → written names b (flat_map (class_interface default) us ++ rest) tables.InterfaceImpl ≡ interface_rows names (b tables.TypeDef) us
has_written names b default [] rest h = none_written names b rest tables.InterfaceImpl h
has_written names b default (u ∷ us) rest h =
    let next = λ (c : Counts). has_written names c default us rest h in
    elim (either (is_default default u)) [
      | inl e ↦ rw e (ap (λ (x : List (List Value)). (Value.To tables.TypeDef (b tables.TypeDef) ∷ type_value names u ∷ []) ∷ x) (next _))
      | inr e ↦ rw e (ap (λ (x : List (List Value)). (Value.To tables.TypeDef (b tables.TypeDef) ∷ type_value names u ∷ []) ∷ x) (next _))
    ]

uses_read : (t : Tables) (names : Names) (n k : ℕ) (us : List UseTree) → AllByRecursion (CellOk t names) us
    → each (λ (row : Numbered). use_in t tables.InterfaceImpl row 1 >>= λ use_. Ok (row.0, use_)) (numbered k (map stated_row (interface_rows names n us))) ≡ Ok (tagged_uses k us)
uses_read t names n k [] h = refl
uses_read t names n k (u ∷ us) h = rw (h.0 (at t tables.InterfaceImpl k 1), uses_read t names n (suc k) us h.1) refl

-- the interfaces of a type, by what its lines write
pub interfaces_read : (names : Names) (ds : List DeclTree) (offset : Offsets) (pre : List Line) (d : DeclTree) (us : List UseTree) (post : List Line) → Stands_ names ds pre d post
    → owned names (behind (behind_all none pre) (own_line d)) tables.InterfaceImpl 0 tables.TypeDef (body_lines d) ≡ interface_rows names (suc (behind_all none pre tables.TypeDef)) us
    → written names (behind (behind_all none pre) (own_line d)) (body_lines d) tables.InterfaceImpl ≡ interface_rows names (suc (behind_all none pre tables.TypeDef)) us
    → AllByRecursion (CellOk (tables_of names ds offset) names) us
    → interfaces_of (tables_of names ds offset) (suc (behind_all none pre tables.TypeDef)) ≡ Ok (tagged_uses (suc (behind_all none pre tables.InterfaceImpl)) us)
interfaces_read names ds offset pre d us post s o w ok =
    let t : Tables = tables_of names ds offset in
    let rows = owned_numbered t names (all_lines names ds) pre (own_line d) (body_lines d) post tables.InterfaceImpl 0 tables.TypeDef (record { is = refl }) (record { is = refl }) s.split refl refl s.interfaces_owned_ s.alone s.interfaces_next (o ∙ sym w) in
    rw (rows, w) (uses_read t names (suc (behind_all none pre tables.TypeDef)) (suc (behind_all none pre tables.InterfaceImpl)) us ok)
