-- The rows that a set of declarations is written as.
use Rattle.std.specs.Prelude.{ℕ, ◌++◌, not, List, [], ◌∷◌, map, codes, if◌then◌else◌, get_or}
use Rattle.std.specs.Str.{bytes_eq}
use Rattle.std.specs.List.{filter, list_any, flat_map}
use Rattle.md_schema.specs.declared.table.Table.{Table}
use Rattle.md_schema.specs.declared.table.Table.TheVariants as tables
use Rattle.md_schema.specs.declared.column.CodedIndex.{CodedIndex}
use Rattle.md_schema.specs.declared.column.CodedIndex.TheVariants as coded
use Rattle.md_schema.specs.declared.column.Column.TheVariants.{Coded}
use Rattle.winmd_rows.specs.Indices.{index_of}
use Rattle.wr_base.specs.Parts.{behind_last, before_last}
use Rattle.winmd_rows.specs.Values.{Value}
use Rattle.winmd_rows.specs.Values as values
use Rattle.winmd_lines.specs.Lines.{Words, To, Type_, OfMethod, OfSpec, Line, line}
use Rattle.winmd_lines.specs.Makers.{Maker, all_makers, maker_type, maker_signature}
use Rattle.winmd_lines.specs.Names.{Names, none, written, type_value, code_of_value, is_declared, is_maker, used, names_in_cell, specs_in_cell, makers_in_cell}
use Rattle.std.specs.Ordering.{nat_cmp}
use Rattle.std.specs.Cmp.Lexicographic.{slice_cmp}
use Rattle.std.specs.declared.cmp.Ordering.{Ordering}
use Rattle.std.specs.declared.cmp.Ordering.TheVariants.{Greater}
use Rattle.wr_base.specs.Trees.{UseTree, reference, same_use, text_of_tree, DeclTree, interface, class, name_of}
use Rattle.winmd_sets.specs.Declared.{first_lines, lines_of}
use Rattle.winmd_lines.specs.Orders.{sort_by, set_by}

abbrev pub code_of_cell : CodedIndex → Value → ℕ
code_of_cell index (values.To table row) = index_of (Coded index) table row
code_of_cell index _ = 0

-- CustomAttribute is sorted by Parent, and MethodSemantics by Association (II.22.10, II.22.28); Constant and InterfaceImpl stand in order already.
abbrev pub in_order : Table → List (List Value) → List (List Value)
in_order tables.CustomAttribute rows = sort_by (λ row. code_of_cell coded.HasCustomAttribute (get_or row 0 (values.Number 0))) rows
in_order tables.MethodSemantics rows = sort_by (λ row. code_of_cell coded.HasSemantics (get_or row 2 (values.Number 0))) rows
in_order _ rows = rows

-- each use once
abbrev pub once : List UseTree → List UseTree
once [] = []
once (x ∷ xs) = x ∷ filter (λ y. not (same_use x y)) (once xs)

abbrev pub placed_by_text : Ordering → UseTree → UseTree → List UseTree → List UseTree → List UseTree
placed_by_text Greater x y ys inserted = y ∷ inserted
placed_by_text _ x y ys inserted = x ∷ y ∷ ys

abbrev pub insert_by_text : UseTree → List UseTree → List UseTree
insert_by_text x [] = x ∷ []
insert_by_text x (y ∷ ys) = placed_by_text (slice_cmp nat_cmp (text_of_tree x) (text_of_tree y)) x y ys (insert_by_text x ys)

-- in the order of texts
abbrev pub by_text : List UseTree → List UseTree
by_text [] = []
by_text (x ∷ xs) = insert_by_text x (by_text xs)

-- ---- the rows of references

abbrev pub scope_of : List ℕ → ℕ
scope_of full = if bytes_eq (before_last 46 full) (codes "System") then 1 else 2

abbrev pub ref_line : List ℕ → Line
ref_line full = line tables.TypeRef (To tables.AssemblyRef (scope_of full) ∷ Words (behind_last 46 full) ∷ Words (before_last 46 full) ∷ [])

-- (A MemberRefParent leads to the same row as a TypeDefOrRef.)
abbrev pub maker_line : Maker → Line
maker_line maker = line tables.MemberRef (Type_ (reference (maker_type maker)) ∷ Words (codes ".ctor") ∷ OfMethod (maker_signature maker) ∷ [])

abbrev pub spec_line : UseTree → Line
spec_line use_ = line tables.TypeSpec (OfSpec use_ ∷ [])

-- the rows of declarations, and of the instances and constructors that they use
abbrev pub own_lines : List DeclTree → List Line
own_lines declarations = first_lines ++ flat_map lines_of declarations

abbrev pub made_lines : List UseTree → List Maker → List Line
made_lines specs makers = map maker_line makers ++ map spec_line specs

-- ---- the names of a set

abbrev pub used_makers : List Line → List Maker
used_makers lines = filter (λ maker. list_any (is_maker maker) (used makers_in_cell lines)) all_makers

abbrev pub used_specs : List Line → List UseTree
used_specs lines = by_text (once (used specs_in_cell lines))

abbrev pub used_refs : List (List ℕ) → List Line → List (List ℕ)
used_refs types lines = set_by (λ full. full) (filter (λ full. not (is_declared types full)) (used names_in_cell lines))

abbrev pub names_by : List (List ℕ) → List Line → List UseTree → List Maker → Names
names_by types lines specs makers = record { types = types; refs = used_refs types (lines ++ made_lines specs makers); specs = specs; makers = makers }

-- Types in the order in which they stand, TypeRefs by full name, TypeSpecs by text, MemberRefs by TypeRef and signature; each that is used, once.
abbrev pub names_of : List DeclTree → Names
names_of declarations = names_by (map name_of declarations) (own_lines declarations) (used_specs (own_lines declarations)) (used_makers (own_lines declarations))

-- ---- the interfaces of a type stand in the order of their TypeDefOrRef (II.22.23)

abbrev pub interfaces_in_order : Names → List UseTree → List UseTree
interfaces_in_order names uses = sort_by (λ use_. code_of_value (type_value names use_)) uses

abbrev pub arranged : Names → DeclTree → DeclTree
arranged names (interface name version id owner requires_ members) = interface name version id owner (interfaces_in_order names requires_) members
arranged names (class name version fixed default has direct factories statics) = class name version fixed default (interfaces_in_order names has) direct factories statics
arranged names declaration = declaration

-- ---- all rows

abbrev pub all_lines : Names → List DeclTree → List Line
all_lines names declarations = map ref_line names.refs ++ (made_lines names.specs names.makers ++ own_lines declarations)

abbrev pub rows_with : Names → List DeclTree → Table → List (List Value)
rows_with names declarations table = in_order table (written names none (all_lines names declarations) table)

-- The rows that a set of declarations is written as.
abbrev pub rows_of : List DeclTree → Table → List (List Value)
rows_of declarations = rows_with (names_of declarations) (map (arranged (names_of declarations)) declarations)
