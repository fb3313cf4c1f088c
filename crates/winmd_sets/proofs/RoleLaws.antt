-- What each method of an interface is: a method, or an accessor of a property or an event.
use Rattle.std.proofs.Common.{◌≡◌, ℕ, suc, true, false, List, [], ◌∷◌, ◌++◌, get_or, map, Ok, refl, sym, subst, ◌∙◌}
use Rattle.std.specs.List.{filter}
use Rattle.md_schema.specs.declared.table.Table.{Table}
use Rattle.md_schema.specs.declared.table.Table.TheVariants as tables
use Rattle.md_schema.specs.declared.column.CodedIndex.TheVariants as coded
use Rattle.winmd_rows.specs.Values.{Value, Offsets, stated_row}
use Rattle.winmd_lines.specs.Lines.{Number, Last, Line, line}
use Rattle.winmd_sets.specs.Members.{param_lines}
use Rattle.winmd_lines.specs.Names.{Names, Counts, none, is_in, behind, value_of, written}
use Rattle.winmd_lines.specs.Positions.{behind_all, NoneIn, Apart, AllOwned, owned}
use Rattle.winmd_lines.specs.Cells.{Row, Tables, at, row_at, rows_of_owner}
use Rattle.winmd_sets.specs.Interfaces.{Role, Method, accessor_of, role_of}
use Rattle.winmd_sets.specs.Rows.{all_lines, code_of_cell}
use Rattle.winmd_lines.specs.Orders.{sort_by}
use Rattle.wr_base.specs.Trees.{DeclTree, ParamTree, SignatureTree}
use Rattle.winmd_sets.proofs.AttributeLaws.{tables_of}
use Rattle.winmd_lines.proofs.LineLaws.{behind-none}
use Rattle.winmd_sets.proofs.MethodLaws.{any_method}
use Rattle.winmd_lines.proofs.OwnerLaws.{tag, leading, owned_is, owner_rows, row_there}
use Rattle.winmd_sets.proofs.ShapeLaws.{none_params, none_join}
use Rattle.winmd_lines.proofs.SortLaws.{Ascending, sorted_keeps}

abbrev association_key : List Value → ℕ
association_key row = code_of_cell coded.HasSemantics (get_or row 2 (Value.Number 0))

-- the meaning of a method, if it has one, in the sorted table
semantics_are : (names : Names) (ds : List DeclTree) (offset : Offsets) (pre : List Line) (l : Line) (own post : List Line) (found : List (List Value)) → all_lines names ds ≡ pre ++ l ∷ (own ++ post) → is_in tables.MethodDef l ≡ true
    → AllOwned tables.MethodSemantics 1 (all_lines names ds) → NoneIn tables.MethodDef own → Apart tables.MethodSemantics 1 tables.MethodDef post
    → owned names (behind (behind_all none pre) l) tables.MethodSemantics 1 tables.MethodDef own ≡ found → Ascending association_key found
    → (ns : List ℕ) × (rows_of_owner (tables_of names ds offset) tables.MethodSemantics 1 tables.MethodDef (suc (behind_all none pre tables.MethodDef)) ≡ tag ns (map stated_row found))
semantics_are names ds offset pre l own post found e g o n a is asc =
    let lines : List Line = all_lines names ds in
    let w : List (List Value) = written names none lines tables.MethodSemantics in
    let k : ℕ = suc (behind_all none pre tables.MethodDef) in
    let mine : filter (leading 1 tables.MethodDef k) w ≡ found = owned_is names lines pre l own post tables.MethodSemantics 1 tables.MethodDef e g refl o n a ∙ is in
    let same : filter (leading 1 tables.MethodDef k) (sort_by association_key w) ≡ filter (leading 1 tables.MethodDef k) w = sorted_keeps (leading 1 tables.MethodDef k) association_key w (subst (Ascending association_key) (sym mine) asc) in
    owner_rows (tables_of names ds offset) names lines (sort_by association_key w) tables.MethodSemantics 1 tables.MethodDef k found refl (row_there (tables_of names ds offset) names lines pre l (own ++ post) tables.MethodDef (record { is = refl }) e g) (same ∙ mine)

pub plain_role : (names : Names) (ds : List DeclTree) (offset : Offsets) (pre : List Line) (l : Line) (own post : List Line) (row : Row) → all_lines names ds ≡ pre ++ l ∷ (own ++ post) → is_in tables.MethodDef l ≡ true
    → AllOwned tables.MethodSemantics 1 (all_lines names ds) → NoneIn tables.MethodDef own → Apart tables.MethodSemantics 1 tables.MethodDef post
    → owned names (behind (behind_all none pre) l) tables.MethodSemantics 1 tables.MethodDef own ≡ []
    → role_of (tables_of names ds offset) (suc (behind_all none pre tables.MethodDef), row) ≡ Ok (Method, (suc (behind_all none pre tables.MethodDef), row))
plain_role names ds offset pre l own post row e g o n a is =
    let found = semantics_are names ds offset pre l own post [] e g o n a is tt in
    rw found.1 refl

pub owned_params : (names : Names) (before : Counts) (k : ℕ) (ps : List ParamTree) (rest : List Line)
    → owned names before tables.MethodSemantics 1 tables.MethodDef (param_lines k ps ++ rest) ≡ owned names (behind_all before (param_lines k ps)) tables.MethodSemantics 1 tables.MethodDef rest
owned_params names before k [] rest = refl
owned_params names before k (p ∷ ps) rest = owned_params names (behind before (line tables.Param [])) (suc k) ps rest

abbrev pub meaning_line : Table → ℕ → Line
meaning_line table meaning = line tables.MethodSemantics (Number meaning ∷ Last tables.MethodDef ∷ Last table ∷ [])

-- the role that one row of MethodSemantics gives
one_role : (t : Tables) (table : Table) (meaning n x c b : ℕ) (ns : List ℕ) (row found_row : Row) (role : Role)
    → rows_of_owner t tables.MethodSemantics 1 tables.MethodDef n ≡ tag ns (stated_row (Value.Number meaning ∷ Value.To tables.MethodDef x ∷ Value.To table c ∷ []) ∷ []) → c ≡ b
    → ((o : ℕ) → row_at t table b o ≡ Ok found_row) → ((o : ℕ) → accessor_of o meaning table (b, found_row) ≡ Ok role) → role_of t (n, row) ≡ Ok (role, (n, row))
one_role t table meaning n x c b ns row found_row role rows same there is =
    let k : ℕ = get_or ns 0 0 in
    rw (rows, same, there (at t tables.MethodSemantics k 2), is (at t tables.MethodSemantics k 0)) refl

-- an accessor of a row that is known
pub accessor_role : (names : Names) (ds : List DeclTree) (offset : Offsets) (pre : List Line) (table : Table) (meaning : ℕ) (name : List ℕ) (sig : SignatureTree) (post : List Line) (row found_row : Row) (role : Role)
    → all_lines names ds ≡ pre ++ any_method 0x0DC6 0 name sig ∷ ((param_lines 1 sig.params ++ meaning_line table meaning ∷ []) ++ post)
    → AllOwned tables.MethodSemantics 1 (all_lines names ds) → Apart tables.MethodSemantics 1 tables.MethodDef post
    → is_in table (line tables.MethodDef []) ≡ false → is_in table (line tables.Param []) ≡ false
    → ((o : ℕ) → row_at (tables_of names ds offset) table (behind_all none pre table) o ≡ Ok found_row)
    → ((o : ℕ) → accessor_of o meaning table (behind_all none pre table, found_row) ≡ Ok role)
    → role_of (tables_of names ds offset) (suc (behind_all none pre tables.MethodDef), row) ≡ Ok (role, (suc (behind_all none pre tables.MethodDef), row))
accessor_role names ds offset pre table meaning name sig post row found_row role e o a in_method in_param there is =
    let t : Tables = tables_of names ds offset in
    let before : Counts = behind_all none pre in
    let l : Line = any_method 0x0DC6 0 name sig in
    let after : Counts = behind before l in
    let own : List Line = param_lines 1 sig.params ++ meaning_line table meaning ∷ [] in
    let then_ : Counts = behind_all after (param_lines 1 sig.params) in
    let none_ : NoneIn tables.MethodDef own = none_join tables.MethodDef (param_lines 1 sig.params) (meaning_line table meaning ∷ []) (none_params tables.MethodDef refl 1 sig.params) (refl, tt) in
    let mine : owned names after tables.MethodSemantics 1 tables.MethodDef own ≡ map (value_of names then_) (meaning_line table meaning).cells ∷ [] = owned_params names after 1 sig.params (meaning_line table meaning ∷ []) in
    let found = semantics_are names ds offset pre l own post (map (value_of names then_) (meaning_line table meaning).cells ∷ []) e refl o none_ a mine (tt, tt) in
    let count : then_ table ≡ before table = behind-none after (param_lines 1 sig.params) table (none_params table in_param 1 sig.params) ∙ rw in_method refl in
    one_role t table meaning (suc (before tables.MethodDef)) (then_ tables.MethodDef) (then_ table) (before table) found.0 row found_row role found.1 count there is
