-- The names of rows are what tokens stand for.
use Rattle.std.proofs.Common.{◌≡◌, ◌+◌, ◌-◌, ◌%◌, ◌/◌, ◌^◌, ℕ, zero, suc, Bool, true, false, cond, List, [], ◌∷◌, length, map, get_or, nat_le, nat_lt, ◌++◌, Option, Some, None, option_map, Ok, Err, refl, sym, ap, ◌∙◌, arith}
use Rattle.md_schema.specs.declared.column.CodedIndex.TheVariants.{TypeDefOrRef}
use Rattle.md_schema.specs.declared.faults.ImageKind.TheVariants.{RowRange}
use Rattle.md_schema.specs.declared.table.Table.{Table}
use Rattle.md_schema.specs.declared.table.Table.TheVariants as tables
use Rattle.md_schema.specs.Schema.{choices_of}
use Rattle.md_schema.specs.Tables.{upto}
use Rattle.md_tables.proofs.WholeLemmas.{funext}
use Rattle.sig_blobs.specs.Tokens.{Named, meaning_in, row_name, target_name}
use Rattle.winmd_rows.specs.Faults.{fault, ◌>>=◌}
use Rattle.winmd_lines.specs.Cells.{full_name_in, row_at}
use Rattle.winmd_sets.specs.Blobs as blobs
use Rattle.winmd_sets.specs.Blobs.{meanings, without_place}
use Rattle.std.proofs.lemmas.List.{map-append}
use Rattle.winmd_cells.proofs.RowLaws.{counted_on}
use Rattle.winmd_cells.specs.declared.image.Image.{Image}
use Rattle.winmd_cells.specs.Seen.{row_seen, tables_in}
use Rattle.winmd_index.specs.Names.{name_seen}

listed : {A : Type 0} (f : ℕ → A) (d : A) (from count k : ℕ) → get_or (map f (upto from count)) k d ≡ cond (nat_le (suc k) count) (f (from + k)) d
unfolding upto
listed f d from zero k = let past : nat_le (suc k) 0 ≡ false = grind arith in rw past refl
listed f d from (suc count) zero =
    let e : from + 0 ≡ from = omega arith in
    let inside : nat_le 1 (suc count) ≡ true = grind arith in
    ap f (sym e) ∙ ap (λ b. cond b (f (from + 0)) d) (sym inside)
listed f d from (suc count) (suc k) =
    let e : suc from + k ≡ from + suc k = omega arith in
    let same : nat_le (suc (suc k)) (suc count) ≡ nat_le (suc k) count = grind arith in
    listed f d (suc from) count k ∙ ap (λ i. cond (nat_le (suc k) count) (f i) d) e ∙ ap (λ b. cond b (f (from + suc k)) d) (sym same)

-- the name in a row that there may be
found : (image : Image) (table : Table) (n : ℕ) → row_name (map (name_seen image table) (upto 1 (length ((tables_in image).rows table)))) n ≡ without_place (row_at (tables_in image) table n 0 >>= λ row. full_name_in row)
found image table zero = refl
found image table (suc k) =
    let here : suc k - 1 ≡ k = omega arith in
    let next : 1 + k ≡ suc k = omega arith in
    let some : nat_lt 0 (suc k) ≡ true = grind arith in
    rw some
    (ap (λ i. get_or (map (name_seen image table) (upto 1 (length ((tables_in image).rows table)))) i (Err RowRange)) here ∙ listed (name_seen image table) (Err RowRange) 1 (length ((tables_in image).rows table)) k
    ∙ ap (λ i. cond (nat_le (suc k) (length ((tables_in image).rows table))) (name_seen image table i) (Err RowRange)) next ∙ placed (nat_le (suc k) (length ((tables_in image).rows table))))
  where
    placed : (b : Bool) → cond b (name_seen image table (suc k)) (Err RowRange) ≡ without_place (cond b (Ok (row_seen image table (suc k))) (fault RowRange 0) >>= λ row. full_name_in row)
    placed true = refl
    placed false = refl

IsTypeTable : Option Table → Type 0
IsTypeTable None = Unit {0}
IsTypeTable (Some tables.TypeDef) = Unit {0}
IsTypeTable (Some tables.TypeRef) = Unit {0}
IsTypeTable (Some tables.TypeSpec) = Unit {0}
IsTypeTable (Some _) = ⊥

target : (image : Image) (names : Named) (choice : Option Table) (n : ℕ) → IsTypeTable choice
    → names.defs ≡ map (name_seen image tables.TypeDef) (upto 1 (length ((tables_in image).rows tables.TypeDef)))
    → names.refs ≡ map (name_seen image tables.TypeRef) (upto 1 (length ((tables_in image).rows tables.TypeRef)))
    → target_name names (option_map (λ table. (table, n)) choice) ≡ without_place (blobs.target_name (tables_in image) 0 (option_map (λ table. (table, n)) choice))
unfolding IsTypeTable
target image names None n is defs refs = refl
target image names (Some tables.TypeDef) n is defs refs = ap (λ rows. row_name rows n) defs ∙ found image tables.TypeDef n
target image names (Some tables.TypeRef) n is defs refs = ap (λ rows. row_name rows n) refs ∙ found image tables.TypeRef n
target image names (Some tables.TypeSpec) n is defs refs = refl
target image names (Some table) n is defs refs = absurd is

choice_is : (tag : ℕ) → IsTypeTable (get_or (choices_of TypeDefOrRef) tag None)
unfolding IsTypeTable
choice_is zero = tt
choice_is (suc zero) = tt
choice_is (suc (suc zero)) = tt
choice_is (suc (suc (suc tag))) = tt

pub same_meanings : (image : Image) (names : Named) → names.defs ≡ map (name_seen image tables.TypeDef) (upto 1 (length ((tables_in image).rows tables.TypeDef)))
    → names.refs ≡ map (name_seen image tables.TypeRef) (upto 1 (length ((tables_in image).rows tables.TypeRef))) → meaning_in names ≡ meanings (tables_in image)
same_meanings image names defs refs =
    funext (meaning_in names) (meanings (tables_in image)) (λ token. target image names (get_or (choices_of TypeDefOrRef) (token % 2 ^ 2) None) (token / 2 ^ 2) (choice_is (token % 2 ^ 2)) defs refs)

-- no row
pub none_listed : {A : Type 0} (f : ℕ → A) → map f (upto 1 0) ≡ []
unfolding upto
none_listed f = refl

-- one row more
pub listed_on : {A : Type 0} (f : ℕ → A) (i : ℕ) (xs new : List A) (x : A) → xs ≡ map f (upto 1 i) → x ≡ f (i + 1) → new ≡ xs ++ x ∷ [] → new ≡ map f (upto 1 (i + 1))
listed_on f i xs new x so_far is pushed =
    pushed ∙ ap (λ ys. ys ++ x ∷ []) so_far ∙ ap (λ y. map f (upto 1 i) ++ y ∷ []) is ∙ sym (map-append f (upto 1 i) ((i + 1) ∷ [])) ∙ ap (map f) (counted_on i)
