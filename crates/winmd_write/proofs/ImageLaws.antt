-- What is written for a set is what its rows are, and a set within the limits is one that an image states.
use Rattle.std.proofs.Common.{◌≡◌, ◌<◌, ◌≤◌, ◌+◌, ◌^◌, ◌∙◌, ℕ, suc, false, List, [], ◌∷◌, ◌++◌, length, map, get_or, Result, Ok, Err, refl, sym, ap, subst, arith, length-append}
use Rattle.std.specs.Prelude.{IfOk, OnOk}
use Rattle.std.specs.List.{AllAdjacentBelow, AllByRecursion, flat_map, list_any}
use Rattle.std.specs.Ordering.{nat_cmp, is_eq}
use Rattle.std.specs.Str.{bytes_eq}
use Rattle.std.specs.Cmp.Lexicographic.{slice_cmp}
use Rattle.std.specs.declared.cmp.Ordering.TheVariants.{Less}
use Rattle.std.proofs.lemmas.Cmp.{nat_list_cmp_total}
use Rattle.std.proofs.lemmas.List.{length-map}
use Rattle.std.proofs.lemmas.Map.Text.{is_eq-slice_cmp}
use Rattle.md_schema.specs.Schema.{columns_of}
use Rattle.md_schema.specs.declared.table.Table.TheVariants as tables
use Rattle.md_tables.specs.Rows.{rows_in}
use Rattle.row_writer.specs.Known.{Values, values_at}
use Rattle.row_writer.specs.Lines.{no_rows}
use Rattle.row_writer.specs.Seen.{seen}
use Rattle.row_writer.specs.declared.writer.Writer.{Writer}
use Rattle.winmd_lines.specs.Lines.{Line}
use Rattle.winmd_lines.specs.Names.{Names, Counts, none, behind, written}
use Rattle.winmd_lines.specs.Orders.{Rising}
use Rattle.winmd_lines.specs.Positions.{behind_all}
use Rattle.winmd_lines.proofs.LineLaws.{length-none, written-append}
use Rattle.winmd_sets.specs.Declared.{first_lines, lines_of}
use Rattle.winmd_sets.specs.Fits.{Fits, SetFits}
use Rattle.winmd_sets.specs.Rows.{all_lines, arranged, made_lines, names_of, own_lines, ref_line, rows_of, rows_with}
use Rattle.winmd_sets.specs.Types.{all_parts_of, sum_of}
use Rattle.winmd_strict.specs.Reading.{TypesOf}
use Rattle.winmd_strict.proofs.StrictLaws.{strict_states}
use Rattle.wr_base.specs.Declarations.{IsInOrder, Precedes}
use Rattle.wr_base.specs.Trees.{DeclTree, decl_tree, name_of}
use Rattle.wr_base.specs.declared.declaration.Declaration.{Declaration}
use Rattle.wr_base.proofs.TreeLaws.{name_of-decl_tree}
use Rattle.part_rows.specs.Grown.{with_line, with_lines}
use Rattle.part_rows.specs.Nothing.{nothing}
use Rattle.part_rows.proofs.GrownLaws.{grown_written}
use Rattle.winmd_writer.specs.Finished.{StrictFor, all_in_order}
use Rattle.winmd_write.specs.Writable.{Writable}

-- ---- lines that refer to nothing

pub refs_any : (names : Names) (refs : List (List ℕ)) (rows : Values) → with_lines nothing (map ref_line refs) rows ≡ with_lines names (map ref_line refs) rows
refs_any names [] rows = refl
refs_any names (full ∷ fulls) rows = refs_any names fulls (with_line names (ref_line full) rows)

pub first_any : (names : Names) (rows : Values) → with_lines nothing first_lines rows ≡ with_lines names first_lines rows
first_any names rows = refl

-- the lines of declarations, whose interfaces are put in order
abbrev pub declared_lines : Names → List Declaration → List Line
declared_lines names ds = flat_map lines_of (map (arranged names) (map decl_tree ds))

-- ---- all rows

-- all lines of a set, with two tables put in order, are the set's rows
pub are_rows : (names : Names) (declared : List DeclTree) (now : Values) → names ≡ names_of declared → now ≡ with_lines names (all_lines names (map (arranged names) declared)) no_rows → all_in_order now ≡ rows_of declared
are_rows names declared now same e =
    ap all_in_order (e ∙ grown_written names (all_lines names (map (arranged names) declared)))
    ∙ ap (λ (n : Names). rows_with n (map (arranged n) declared)) same

-- ---- few types are referred to

refs_count : (before : Counts) (refs : List (List ℕ)) → behind_all before (map ref_line refs) tables.TypeRef ≡ before tables.TypeRef + length refs
refs_count before [] = omega arith
refs_count before (full ∷ fulls) = let rest = refs_count (behind before (ref_line full)) fulls in omega (arith, rest)

-- a table has fewer than 2^24 rows
pub few_refs : (names : Names) (ds : List DeclTree) (w : Writer) → seen w ≡ with_lines names (all_lines names ds) no_rows → length names.refs < 2 ^ 24
few_refs names ds w e =
    let refs : List Line = map ref_line names.refs in
    let rest : List Line = made_lines names.specs names.makers ++ own_lines ds in
    let is : seen w tables.TypeRef ≡ written names none (all_lines names ds) tables.TypeRef = ap (λ (rows : Values). rows tables.TypeRef) (e ∙ grown_written names (all_lines names ds)) in
    let split : written names none (all_lines names ds) tables.TypeRef ≡ written names none refs tables.TypeRef ++ written names (behind_all none refs) rest tables.TypeRef = written-append names none refs rest tables.TypeRef in
    let same = length-map (rows_in w.set tables.TypeRef) (values_at w.texts w.blobs (columns_of tables.TypeRef)) in
    let long = ap length (is ∙ split) in
    let both = length-append (written names none refs tables.TypeRef) (written names (behind_all none refs) rest tables.TypeRef) in
    let count = length-none names refs tables.TypeRef in
    let counted = refs_count none names.refs in
    let room : length (rows_in w.set tables.TypeRef) < 2 ^ 24 = w.room tables.TypeRef in
    omega (arith, same, long, both, count, counted, room)

-- ---- the order of names

pub rising : (ds : List Declaration) → AllAdjacentBelow Precedes ds (length ds) → Rising name_of (map decl_tree ds)
rising [] h = tt
rising (a ∷ []) h = tt
rising (a ∷ b ∷ ds) h =
    let next : (k : ℕ) → suc k + 1 ≡ suc (k + 1) = λ k. omega arith in (
      (λ i. slice_cmp nat_cmp (name_of-decl_tree a i) (name_of-decl_tree b i)) ∙ h 0 a (omega arith),
      rising (b ∷ ds) (λ k d l. subst (λ (n : ℕ). Precedes (get_or (b ∷ ds) k d) (get_or (a ∷ b ∷ ds) n d)) (next k) (h (suc k) d (omega (arith, l)))),
    )

-- the name comes before those of all of these
abbrev Before : List ℕ → List DeclTree → Type 0
Before name ds = AllByRecursion (λ d. slice_cmp nat_cmp name (name_of d) ≡ Less) ds

before_more : (a : List ℕ) (b : DeclTree) (ds : List DeclTree) → slice_cmp nat_cmp a (name_of b) ≡ Less → Before (name_of b) ds → Before a ds
before_more a b [] e h = tt
before_more a b (d ∷ ds) e h = (nat_list_cmp_total.trans a (name_of b) (name_of d) e h.0, before_more a b ds e h.1)

before_all : (d : DeclTree) (ds : List DeclTree) → Rising name_of (d ∷ ds) → Before (name_of d) ds
before_all d [] h = tt
before_all d (e ∷ es) h = (h.0, before_more (name_of d) e es h.0 (before_all e es h.1))

rising_tail : (d : DeclTree) (ds : List DeclTree) → Rising name_of (d ∷ ds) → Rising name_of ds
rising_tail d [] h = tt
rising_tail d (e ∷ es) h = h.1

apart : (a b : List ℕ) → slice_cmp nat_cmp a b ≡ Less → bytes_eq a b ≡ false
apart a b e = sym (is_eq-slice_cmp a b) ∙ ap is_eq e

once : (name : List ℕ) (ds : List DeclTree) → Before name ds → list_any (λ e. bytes_eq name (name_of e)) ds ≡ false
once name [] h = refl
once name (d ∷ ds) h = rw (apart name (name_of d) h.0) (once name ds h.1)

-- ---- a set within the limits

set_fits : (ds : List DeclTree) (types parts : ℕ) → Rising name_of ds → types + length ds ≤ 20000 → parts + sum_of all_parts_of ds ≤ 500000 → SetFits types parts ds
set_fits [] types parts rise few small = tt
set_fits (d ∷ ds) types parts rise few small =
    let f : types + suc (length ds) ≤ 20000 = few in
    let s : parts + (all_parts_of d + sum_of all_parts_of ds) ≤ 500000 = small in
    (omega (arith, f), omega (arith, s), once (name_of d) ds (before_all d ds rise), set_fits ds (suc types) (parts + all_parts_of d) (rising_tail d ds rise) (omega (arith, f)) (omega (arith, s)))

fits : (types : List Declaration) → IsInOrder types → Writable types → length (names_of (map decl_tree types)).refs < 2 ^ 24 → Fits (map decl_tree types)
fits types order w few =
    let many = length-map types decl_tree in
    let few_types = w.few in
    let few_parts = w.small in
    record {
      each = w.each;
      set = set_fits (map decl_tree types) 0 0 (rising types order.rises) (omega (arith, many, few_types)) (omega (arith, few_parts));
      names = record { refs = omega (arith, few); types = omega (arith, many, few_types) };
    }

-- a strict image of such a set states it
pub states : (types : List Declaration) (bytes : List ℕ) → IsInOrder types → length (names_of (map decl_tree types)).refs < 2 ^ 24 → StrictFor (map decl_tree types) bytes → Writable types → TypesOf bytes ≡ Ok (map decl_tree types)
states types bytes order few s w =
    strict_states bytes s.strict (subst Fits (sym s.states) (fits types order w few)) ∙ ap (λ (ds : List DeclTree). Ok ds) s.states

-- ---- what calls promise of their success

pub ok_always : {T E : Type 0} (r : Result T E) (P : Type 0) → P → OnOk r P
ok_always (Ok x) P h = h
ok_always (Err e) P h = tt

pub if_ok : {T E : Type 0} (r : Result T E) (P Q : T → Type 0) → ((x : T) → P x → Q x) → IfOk r P → IfOk r Q
if_ok (Ok x) P Q f h = f x h
if_ok (Err e) P Q f h = tt

pub all_ok : {T E : Type 0} (r : Result T E) (A B : Type 0) (P Q : T → Type 0) → ((x : T) → A → B → P x → Q x) → OnOk r A → OnOk r B → IfOk r P → IfOk r Q
all_ok (Ok x) A B P Q f a b h = f x a b h
all_ok (Err e) A B P Q f a b h = tt
