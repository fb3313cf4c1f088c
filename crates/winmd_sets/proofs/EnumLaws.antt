-- Reading the rows of an enum gives it.
use Rattle.std.proofs.Common.{◌≡◌, ℕ, suc, ◌-◌, ◌^◌, ◌<◌, ◌≤◌, Bool, true, false, cond, ltb, leb, List, [], ◌∷◌, ◌++◌, length, map, Ok, refl, sym, ap, subst, ◌∙◌, append_assoc, arith}
use Rattle.std.specs.Prelude.{◌==◌, ℤ, pos, negsuc, ⊤, codes}
use Rattle.std.specs.List.{flat_map, filter, AllByRecursion}
use Rattle.std.proofs.lemmas.Bool.{eq-eqb, lt-ltb, le-ltb, le-leb}
use Rattle.std.proofs.lemmas.Int.{ints}
use Rattle.std.proofs.lemmas.List.Concat.{flat_map-cons}
use Rattle.md_bytes.specs.Bytes.{le, number}
use Rattle.md_bytes.proofs.NumberLemmas.{number-le}
use Rattle.md_schema.specs.declared.table.Table.TheVariants as tables
use Rattle.wr_base.specs.Paths.{is_identifier}
use Rattle.wr_base.specs.declared.type_use.Base.TheVariants as bases
use Rattle.wr_base.specs.declared.declaration.Case.{Case}
use Rattle.winmd_rows.specs.Faults.{each}
use Rattle.winmd_rows.specs.Bits.{bits_of_int, int_of_bits}
use Rattle.winmd_rows.specs.Values.{Offsets, stated_row}
use Rattle.winmd_lines.specs.Lines.{Number, Words, Bytes, Last, OfField, Line, line}
use Rattle.winmd_sets.specs.Declared.{own_line, body_lines, version_of_type}
use Rattle.winmd_lines.specs.Makers.{Maker}
use Rattle.winmd_sets.specs.Members.{when, attribute, field_line, case_lines, element}
use Rattle.winmd_lines.specs.Names.{Names, Counts, none, behind, value_of, written}
use Rattle.winmd_lines.specs.Positions.{behind_all, NoneIn, Carries, Apart, AllOwned, owned}
use Rattle.sig_blobs.specs.Uses.{use_within, behind_modifiers}
use Rattle.winmd_sets.specs.Blobs.{field_of}
use Rattle.winmd_lines.specs.Cells.{Row, Numbered, Tables, at, numbered}
use Rattle.winmd_sets.specs.Attributes.{Attribute, version_of}
use Rattle.winmd_sets.specs.Fields.{flags_of, marked, of_mark, case_of, enum_of}
use Rattle.winmd_sets.specs.Rows.{all_lines}
use Rattle.wr_base.specs.Trees.{DeclTree, plain, value, enum}
use Rattle.winmd_sets.specs.Fits.{ValueFits}
use Rattle.winmd_sets.proofs.AttributeLaws.{tables_of}
use Rattle.winmd_lines.proofs.LineLaws.{behind_all-append, list_is}
use Rattle.winmd_lines.proofs.OwnerLaws.{leading, owned_is, owner_rows, row_there}
use Rattle.winmd_sets.proofs.ShapeLaws.{of_flat, all_true, constants_apart, apart_join}

-- ---- values in 32 bits

bits_low : (flags : Bool) (v : ℤ) → ValueFits flags v → bits_of_int v < 2 ^ 32
bits_low false (pos n) h = let high = h.high in omega (arith, ints, high)
bits_low false (negsuc n) h = omega arith
bits_low true (pos n) h = h
bits_low true (negsuc n) h = absurd h

int_again : (flags : Bool) (v : ℤ) → ValueFits flags v → int_of_bits flags (bits_of_int v) ≡ v
int_again true (pos n) h = refl
int_again true (negsuc n) h = absurd h
int_again false (pos n) h =
    let high = h.high in
    let t : ltb n (2 ^ 31) ≡ true = lt-ltb _ _ (omega (arith, ints, high)) in
    rw t refl
int_again false (negsuc n) h =
    let low = h.low in
    let small : n ≤ 2147483647 = omega (arith, ints, low) in
    let t : ltb (2 ^ 32 - suc n) (2 ^ 31) ≡ false = le-ltb _ _ (omega arith) in
    let e : 2 ^ 32 - suc (2 ^ 32 - suc n) ≡ n = omega arith in
    rw t (ap (λ (k : ℕ). negsuc k) e)

pub record CaseOk (flags : Bool) (c : Case) : Type 0 where
  pub named : is_identifier c.name ≡ true
  pub short : length c.name ≤ 255
  pub fits : ValueFits flags c.value

-- ---- cases

marks_are : (names : Names) (before : Counts) (name : List ℕ) (flags : Bool) (n : ℕ) (cs : List Case)
    → each marked (numbered n (map stated_row (written names before (flat_map (case_lines name flags) cs) tables.Field)))
    ≡ Ok (map (λ r. (true, r)) (numbered n (map stated_row (written names before (flat_map (case_lines name flags) cs) tables.Field))))
marks_are names before name flags n [] = refl
marks_are names before name flags n (c ∷ cs) =
    let b : Counts = behind_all before (case_lines name flags c) in
    let rest = marks_are names b name flags (suc n) cs in
    rw rest refl

of_mark-all : (rows : List Numbered) → of_mark true (map (λ r. (true, r)) rows) ≡ rows
of_mark-all [] = refl
of_mark-all (r ∷ rows) = ap (λ (x : List Numbered). r ∷ x) (of_mark-all rows)

of_mark-none : (rows : List Numbered) → of_mark false (map (λ r. (true, r)) rows) ≡ []
of_mark-none [] = refl
of_mark-none (r ∷ rows) = of_mark-none rows

cases_read : (names : Names) (ds : List DeclTree) (offset : Offsets) (pre : List Line) (name : List ℕ) (flags : Bool) (cs : List Case) (post : List Line) → all_lines names ds ≡ pre ++ (flat_map (case_lines name flags) cs ++ post)
    → AllByRecursion (CaseOk flags) cs → AllOwned tables.Constant 2 (all_lines names ds) → Apart tables.Constant 2 tables.Field post
    → each (case_of (tables_of names ds offset) flags) (numbered (suc (behind_all none pre tables.Field)) (map stated_row (written names (behind_all none pre) (flat_map (case_lines name flags) cs) tables.Field))) ≡ Ok cs
cases_read names ds offset pre name flags [] post e fits o a = refl
cases_read names ds offset pre name flags (c ∷ cs) post e fits o a =
    let t : Tables = tables_of names ds offset in
    let lines : List Line = all_lines names ds in
    let before : Counts = behind_all none pre in
    let f : Line = field_line 0x8056 c.name (OfField (value name)) in
    let k : Line = line tables.Constant (Number (element flags) ∷ Number 0 ∷ Last tables.Field ∷ Bytes (le 4 (bits_of_int c.value)) ∷ []) in
    let later : List Line = flat_map (case_lines name flags) cs ++ post in
    let cons : flat_map (case_lines name flags) (c ∷ cs) ++ post ≡ f ∷ ((k ∷ []) ++ later) = ap (λ (x : List Line). x ++ post) (flat_map-cons (case_lines name flags) c cs) in
    let split : lines ≡ pre ++ f ∷ ((k ∷ []) ++ later) = e ∙ ap (λ (x : List Line). pre ++ x) cons in
    let next : lines ≡ (pre ++ f ∷ k ∷ []) ++ later = split ∙ sym (append_assoc pre (f ∷ k ∷ []) later) in
    let apart : Apart tables.Constant 2 tables.Field later = apart_join tables.Constant 2 tables.Field (flat_map (case_lines name flags) cs) post (of_flat (Apart tables.Constant 2 tables.Field) constants_apart (case_lines name flags) (λ x. ⊤) (λ x y. constants_apart.case_ name flags x) cs (all_true cs)) a in
    let mine : filter (leading 2 tables.Field (suc (before tables.Field))) (written names none lines tables.Constant) ≡ owned names (behind before f) tables.Constant 2 tables.Field (k ∷ []) =
    owned_is names lines pre f (k ∷ []) later tables.Constant 2 tables.Field split refl refl o (refl, tt) apart in
    let constants = owner_rows t names lines (written names none lines tables.Constant) tables.Constant 2 tables.Field (suc (before tables.Field)) (owned names (behind before f) tables.Constant 2 tables.Field (k ∷ [])) refl (row_there t names lines pre f ((k ∷ []) ++ later) tables.Field (record { is = refl }) split refl) mine in
    let bits : number (le 4 (bits_of_int c.value)) ≡ bits_of_int c.value = number-le 4 (bits_of_int c.value) (bits_low flags c.value fits.0.fits) in
    let value_ : int_of_bits flags (bits_of_int c.value) ≡ c.value = int_again flags c.value fits.0.fits in
    let short : leb (length c.name) 255 ≡ true = le-leb _ _ fits.0.short in
    let kind : (element flags == element flags) ≡ true = eq-eqb (element flags) (element flags) refl in
    let rest0 = cases_read names ds offset (pre ++ f ∷ k ∷ []) name flags cs post next fits.1 o a in
    let at_end : behind_all none (pre ++ f ∷ k ∷ []) ≡ behind (behind before f) k = behind_all-append none pre (f ∷ k ∷ []) in
    let rest = rw at_end at rest0 in
    rw (fits.0.named, short, constants.1, kind, bits, value_, rest) refl

-- ---- the enum

field_of_element : (t : Tables) (offset : ℕ) (flags : Bool) → field_of t offset (0x06 ∷ element flags ∷ []) ≡ Ok (cond flags (plain bases.U32) (plain bases.I32))
unfolding use_within behind_modifiers
field_of_element t offset true = refl
field_of_element t offset false = refl

flags_again : (offset : ℕ) (flags : Bool) → flags_of offset (cond flags (plain bases.U32) (plain bases.I32)) ≡ Ok flags
flags_again offset true = refl
flags_again offset false = refl

-- the lines in front of the cases
abbrev pub enum_head : ℕ → Bool → List Line
enum_head version flags = when flags (attribute tables.TypeDef Maker.Flags [] ∷ []) ++ (version_of_type version ∷ field_line 0x0601 (codes "value__") (Bytes (0x06 ∷ element flags ∷ [])) ∷ [])

head_split : (name : List ℕ) (version : ℕ) (flags : Bool) (cs : List Case) → body_lines (enum name version flags cs) ≡ enum_head version flags ++ flat_map (case_lines name flags) cs
head_split name version true cs = refl
head_split name version false cs = refl

-- the fields: `value__`, and the cases
fields_written : (names : Names) (before : Counts) (name : List ℕ) (version : ℕ) (flags : Bool) (cs : List Case)
    → written names before (body_lines (enum name version flags cs)) tables.Field
    ≡ map (value_of names before) (Number 0x0601 ∷ Words (codes "value__") ∷ Bytes (0x06 ∷ element flags ∷ []) ∷ []) ∷ written names (behind_all before (enum_head version flags)) (flat_map (case_lines name flags) cs) tables.Field
fields_written names before name version true cs = refl
fields_written names before name version false cs = refl

head_fields : (before : Counts) (version : ℕ) (flags : Bool) → behind_all before (enum_head version flags) tables.Field ≡ suc (before tables.Field)
head_fields before version true = refl
head_fields before version false = refl

pub enum_read : (names : Names) (ds : List DeclTree) (offset : Offsets) (pre : List Line) (name : List ℕ) (version : ℕ) (flags : Bool) (cs : List Case) (post : List Line) (attributes : List Attribute)
    → all_lines names ds ≡ pre ++ own_line (enum name version flags cs) ∷ (body_lines (enum name version flags cs) ++ post)
    → NoneIn tables.TypeDef (body_lines (enum name version flags cs)) → Carries tables.TypeDef 4 tables.Field post
    → AllByRecursion (CaseOk flags) cs → AllOwned tables.Constant 2 (all_lines names ds) → Apart tables.Constant 2 tables.Field post
    → version_of (tables_of names ds offset) (suc (behind_all none pre tables.TypeDef)) attributes ≡ Ok version
    → enum_of (tables_of names ds offset) (suc (behind_all none pre tables.TypeDef)) name attributes ≡ Ok (enum name version flags cs)
enum_read names ds offset pre name version flags cs post attributes e n c fits o a v =
    let t : Tables = tables_of names ds offset in
    let d : DeclTree = enum name version flags cs in
    let lines : List Line = all_lines names ds in
    let before : Counts = behind_all none pre in
    let after : Counts = behind before (own_line d) in
    let head : List Line = enum_head version flags in
    let inner : Counts = behind_all after head in
    let flat : List Line = flat_map (case_lines name flags) cs in
    let list = list_is t names lines pre (own_line d) (body_lines d) post tables.TypeDef 4 tables.Field (record { is = refl }) (record { is = refl }) e refl refl refl n c in
    let at_cases : behind_all none (pre ++ own_line d ∷ head) ≡ inner = behind_all-append none pre (own_line d ∷ head) in
    let number_is : inner tables.Field ≡ suc (before tables.Field) = head_fields after version flags in
    let split : lines ≡ (pre ++ own_line d ∷ head) ++ (flat ++ post) =
    e ∙ ap (λ (x : List Line). pre ++ own_line d ∷ (x ++ post)) (head_split name version flags cs) ∙ ap (λ (x : List Line). pre ++ own_line d ∷ x) (append_assoc head flat post) ∙ sym (append_assoc pre (own_line d ∷ head) (flat ++ post)) in
    let cases0 = cases_read names ds offset (pre ++ own_line d ∷ head) name flags cs post split fits o a in
    let cases1 : each (case_of t flags) (numbered (suc (inner tables.Field)) (map stated_row (written names inner flat tables.Field))) ≡ Ok cs =
    subst (λ (b : Counts). each (case_of t flags) (numbered (suc (b tables.Field)) (map stated_row (written names b flat tables.Field))) ≡ Ok cs) at_cases cases0 in
    let rows : List Row = map stated_row (written names inner flat tables.Field) in
    let cases : each (case_of t flags) (numbered (suc (suc (before tables.Field))) rows) ≡ Ok cs = subst (λ (k : ℕ). each (case_of t flags) (numbered (suc k) rows) ≡ Ok cs) number_is cases1 in
    let marks = marks_are names inner name flags (suc (suc (before tables.Field))) cs in
    rw (v, list, fields_written names after name version flags cs, marks, of_mark-none (numbered (suc (suc (before tables.Field))) rows), of_mark-all (numbered (suc (suc (before tables.Field))) rows), field_of_element t (at t tables.Field (suc (before tables.Field)) 2) flags, flags_again (at t tables.Field (suc (before tables.Field)) 2) flags, cases) refl
