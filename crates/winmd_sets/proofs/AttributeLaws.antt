-- An attribute is read as that of its type.
use Rattle.std.proofs.Common.{◌≡◌, ℕ, suc, ◌+◌, ◌≤◌, true, false, List, [], ◌∷◌, ◌++◌, length, map, get_or, Ok, refl, sym, ap, subst, ◌∙◌, append_assoc, arith, inl, inr}
use Rattle.std.specs.Prelude.{◌==◌, bytes_eq}
use Rattle.std.specs.List.{list_any, filter, AllByRecursion}
use Rattle.std.proofs.lemmas.Bool.{eqb-true, and_parts}
use Rattle.md_schema.specs.declared.table.Table.{Table}
use Rattle.md_schema.specs.declared.table.Table.TheVariants as tables
use Rattle.md_schema.specs.declared.column.CodedIndex.TheVariants as coded
use Rattle.md_schema.specs.Schema.{place_of}
use Rattle.md_schema.specs.declared.column.Column.TheVariants.{Coded}
use Rattle.winmd_rows.specs.Indices.{index_of}
use Rattle.winmd_rows.specs.Values.{Value, Offsets, stated, stated_row}
use Rattle.winmd_lines.specs.Lines.{Line}
use Rattle.winmd_lines.specs.Makers.{Maker, Flags, Activatable, Factory, Default, ExclusiveTo, Guid, Overload, Static, Version, all_makers, maker_number, maker_type}
use Rattle.winmd_sets.specs.Members.{attribute}
use Rattle.winmd_lines.specs.Names.{Names, Counts, none, is_in, behind, written, place, is_declared, is_maker}
use Rattle.winmd_lines.specs.Positions.{behind_all, NoneIn, Apart, AllOwned, owned}
use Rattle.winmd_lines.specs.Cells.{Tables, at, leads, rows_of_owner}
use Rattle.winmd_sets.specs.Attributes.{Constructor, constructor_at, attribute_of}
use Rattle.winmd_sets.specs.Rows.{ref_line, maker_line, spec_line, own_lines, all_lines, rows_with, code_of_cell}
use Rattle.winmd_lines.specs.Orders.{sort_by}
use Rattle.wr_base.specs.Trees.{DeclTree}
use Rattle.winmd_lines.specs.Positions.{Plain}
use Rattle.winmd_lines.proofs.LineLaws.{either, row_is, row_of, map-append, behind_all-append, same_place}
use Rattle.winmd_sets.proofs.NameLaws.{found, ref_named, TwoParts}
use Rattle.winmd_lines.proofs.OwnerLaws.{tag, leading, owned_is, owner_rows, row_there}
use Rattle.winmd_lines.proofs.SortLaws.{Ascending, sorted_keeps}
use Rattle.sig_blobs.specs.declared.argument.Argument.{Argument}

-- the tables of a set
abbrev pub tables_of : Names → List DeclTree → Offsets → Tables
tables_of names ds offset = record { rows = stated (rows_with names ds); offset = offset }

maker_is : (m : Maker) → get_or all_makers (maker_number m) Flags ≡ m
maker_is Flags = refl
maker_is Activatable = refl
maker_is Factory = refl
maker_is Default = refl
maker_is ExclusiveTo = refl
maker_is Guid = refl
maker_is Overload = refl
maker_is Static = refl
maker_is Version = refl

pub same_maker : (a b : Maker) → is_maker a b ≡ true → a ≡ b
same_maker a b h = sym (maker_is a) ∙ ap (λ (n : ℕ). get_or all_makers n Flags) (eqb-true (maker_number a) (maker_number b) h) ∙ maker_is b

pub outside : (types : List (List ℕ)) (m : Maker) → is_declared types (maker_type m) ≡ false
outside types Flags = refl
outside types Activatable = refl
outside types Factory = refl
outside types Default = refl
outside types ExclusiveTo = refl
outside types Guid = refl
outside types Overload = refl
outside types Static = refl
outside types Version = refl

two_parts : (m : Maker) → TwoParts (maker_type m)
two_parts Flags = refl
two_parts Activatable = refl
two_parts Factory = refl
two_parts Default = refl
two_parts ExclusiveTo = refl
two_parts Guid = refl
two_parts Overload = refl
two_parts Static = refl
two_parts Version = refl

-- a constructor that has its MemberRef, and its type a TypeRef
pub record MakerOk (names : Names) (m : Maker) : Type 0 where
  pub made : list_any (is_maker m) names.makers ≡ true
  pub named : list_any (bytes_eq (maker_type m)) names.refs ≡ true

makers_behind : (before : Counts) (xs : List Maker) → behind_all before (map maker_line xs) tables.MemberRef ≡ before tables.MemberRef + length xs
makers_behind before [] = omega arith
makers_behind before (x ∷ xs) = let rest = makers_behind (behind before (maker_line x)) xs in omega (arith, rest)

refs_aside : (before : Counts) (xs : List (List ℕ)) → behind_all before (map ref_line xs) tables.MemberRef ≡ before tables.MemberRef
refs_aside before [] = refl
refs_aside before (x ∷ xs) = refs_aside (behind before (ref_line x)) xs

-- a constructor as a reader finds it
abbrev pub made_by : Tables → Names → Maker → Constructor
made_by t names m = record { type_ = maker_type m; signature = row_of names none (maker_line m); column = 2; offset = at t tables.MemberRef (suc (place (is_maker m) names.makers)) 2 }

-- what is found at the MemberRef of a constructor
pub record Made (t : Tables) (names : Names) (m : Maker) : Type 0 where
  pub it : Constructor
  pub typed : it.type_ ≡ maker_type m
  pub by : it ≡ made_by t names m
  pub is : (offset : ℕ) → constructor_at t offset (Value.To tables.MemberRef (suc (place (is_maker m) names.makers))) ≡ Ok it

abbrev constructor_by : Names → Maker → ℕ → Constructor
constructor_by names x offset = record { type_ = maker_type x; signature = row_of names none (maker_line x); column = 2; offset = offset }

pub made : (names : Names) (ds : List DeclTree) (offset : Offsets) (m : Maker) → MakerOk names m → Made (tables_of names ds offset) names m
made names ds offset m h =
    let t : Tables = tables_of names ds offset in
    let lines : List Line = all_lines names ds in
    let refs : List Line = map ref_line names.refs in
    let f = found (is_maker m) names.makers h.made in
    let same : m ≡ f.item = same_maker m f.item f.is in
    let tail : List Line = map spec_line names.specs ++ own_lines ds in
    let pre : List Line = refs ++ map maker_line f.front in
    let inner : map maker_line names.makers ≡ map maker_line f.front ++ maker_line f.item ∷ map maker_line f.back = ap (map maker_line) f.split ∙ map-append maker_line f.front (f.item ∷ f.back) in
    let split : lines ≡ pre ++ maker_line f.item ∷ (map maker_line f.back ++ tail) =
    ap (λ (x : List Line). refs ++ x) (append_assoc (map maker_line names.makers) (map spec_line names.specs) (own_lines ds) ∙ ap (λ (x : List Line). x ++ tail) inner ∙ append_assoc (map maker_line f.front) (maker_line f.item ∷ map maker_line f.back) tail)
    ∙ sym (append_assoc refs (map maker_line f.front) (maker_line f.item ∷ (map maker_line f.back ++ tail))) in
    let number_is : behind_all none pre tables.MemberRef ≡ place (is_maker m) names.makers =
    ap (λ (c : Counts). c tables.MemberRef) (behind_all-append none refs (map maker_line f.front)) ∙ (let a = makers_behind (behind_all none refs) f.front in let b = refs_aside none names.refs in let c = f.at in omega (arith, a, b, c)) in
    let row = λ (o : ℕ). row_is t names lines pre (maker_line f.item) (map maker_line f.back ++ tail) tables.MemberRef o (record { is = refl }) split refl in
    let named = λ (o : ℕ). ref_named t names lines (map maker_line names.makers ++ map spec_line names.specs ++ own_lines ds) (maker_type f.item) o (record { is = refl }) refl (subst (λ (x : Maker). list_any (bytes_eq (maker_type x)) names.refs ≡ true) same h.named) (two_parts f.item) in
    let out : is_declared names.types (maker_type f.item) ≡ false = outside names.types f.item in
    record {
      it = record { type_ = maker_type f.item; signature = row_of names (behind_all none pre) (maker_line f.item); column = 2; offset = at t tables.MemberRef (suc (place (is_maker m) names.makers)) 2 };
      typed = ap maker_type (sym same);
      by = ap (λ (x : Maker). constructor_by names x (at t tables.MemberRef (suc (place (is_maker m) names.makers)) 2)) (sym same);
      is = λ o. (rw (sym number_is, row o, out, named (at t tables.MemberRef (suc (behind_all none pre tables.MemberRef)) 0)) refl);
    }

-- an attribute's row
pub attribute_is : (t : Tables) (names : Names) (before : Counts) (table : Table) (m : Maker) (arguments : List Argument) (k : ℕ) (c : Made t names m)
    → attribute_of t (k, row_of names before (attribute table m arguments)) ≡ Ok (record { made = c.it; row = (k, row_of names before (attribute table m arguments)) })
attribute_is t names before table m arguments k c = rw (c.is (at t tables.CustomAttribute k 1)) refl

-- ---- the attributes of a row stand together in the sorted table

key_of_leads : (owner : Table) (n : ℕ) (v : Value) → leads owner n v ≡ true → code_of_cell coded.HasCustomAttribute v ≡ index_of (Coded coded.HasCustomAttribute) owner n
key_of_leads owner n (Value.To other r) h =
    let both = and_parts (place_of owner == place_of other) (n == r) h in
    let same : owner ≡ other = same_place owner other both.0 in
    let row : n ≡ r = eqb-true n r both.1 in
    ap (λ (x : Table). index_of (Coded coded.HasCustomAttribute) x r) (sym same) ∙ ap (index_of (Coded coded.HasCustomAttribute) owner) (sym row)
key_of_leads owner n (Value.Number k) h = absurd cc
key_of_leads owner n (Value.Text k) h = absurd cc
key_of_leads owner n (Value.Blob k) h = absurd cc
key_of_leads owner n (Value.Guid k) h = absurd cc

abbrev parent_key : List Value → ℕ
parent_key row = code_of_cell coded.HasCustomAttribute (get_or row 0 (Value.Number 0))

one_key : (owner : Table) (n : ℕ) (rows : List (List Value)) → AllByRecursion (λ row. parent_key row ≡ index_of (Coded coded.HasCustomAttribute) owner n) (filter (leading 0 owner n) rows)
one_key owner n [] = tt
one_key owner n (row ∷ rows) =
    elim (either (leading 0 owner n row)) [
      | inl e ↦ rw e (key_of_leads owner n (get_or row 0 (Value.Number 0)) e, one_key owner n rows)
      | inr e ↦ rw e (one_key owner n rows)
    ]

not_above : (k x : ℕ) (rows : List (List Value)) → x ≡ k → AllByRecursion (λ row. parent_key row ≡ k) rows → AllByRecursion (λ row. x ≤ parent_key row) rows
not_above k x [] e h = tt
not_above k x (row ∷ rows) e h = (let a = h.0 in omega (arith, a, e), not_above k x rows e h.1)

level : (k : ℕ) (rows : List (List Value)) → AllByRecursion (λ row. parent_key row ≡ k) rows → Ascending parent_key rows
level k [] h = tt
level k (row ∷ rows) h = (not_above k (parent_key row) rows h.0 h.1, level k rows h.1)

-- The attributes of a line's row are those that are written for it.
pub attributes_are : (names : Names) (ds : List DeclTree) (offset : Offsets) (pre : List Line) (l : Line) (own post : List Line) (owner : Table) → Plain (tables_of names ds offset) names (all_lines names ds) owner → all_lines names ds ≡ pre ++ l ∷ (own ++ post) → is_in owner l ≡ true
    → (place_of tables.CustomAttribute == place_of owner) ≡ false → AllOwned tables.CustomAttribute 0 (all_lines names ds) → NoneIn owner own → Apart tables.CustomAttribute 0 owner post
    → (ns : List ℕ) × (rows_of_owner (tables_of names ds offset) tables.CustomAttribute 0 owner (suc (behind_all none pre owner)) ≡ tag ns (map stated_row (owned names (behind (behind_all none pre) l) tables.CustomAttribute 0 owner own)))
attributes_are names ds offset pre l own post owner q e g d o n a =
    let lines : List Line = all_lines names ds in
    let w : List (List Value) = written names none lines tables.CustomAttribute in
    let k : ℕ = suc (behind_all none pre owner) in
    let same : filter (leading 0 owner k) (sort_by parent_key w) ≡ filter (leading 0 owner k) w = sorted_keeps (leading 0 owner k) parent_key w (level (index_of (Coded coded.HasCustomAttribute) owner k) (filter (leading 0 owner k) w) (one_key owner k w)) in
    owner_rows (tables_of names ds offset) names lines (sort_by parent_key w) tables.CustomAttribute 0 owner k (owned names (behind (behind_all none pre) l) tables.CustomAttribute 0 owner own) refl (row_there (tables_of names ds offset) names lines pre l (own ++ post) owner q e g)
    (same ∙ owned_is names lines pre l own post tables.CustomAttribute 0 owner e g d o n a)
