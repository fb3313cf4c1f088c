-- What is looked up is where names stand.
use Rattle.std.proofs.Common.{◌≡◌, ℕ, suc, ◌+◌, ◌<◌, Bool, true, false, List, map, get_or, drop, length, refl, sym, ap, ◌∙◌, arith, inl, inr}
use Rattle.std.specs.Prelude.{Option, Some, None}
use Rattle.std.specs.Option.{unwrap_or}
use Rattle.std.specs.Str.{bytes_eq}
use Rattle.std.proofs.lemmas.List.{drop_more}
use Rattle.std.proofs.lemmas.Option.{same_Some}
use Rattle.md_schema.specs.Codes.{target_of}
use Rattle.md_schema.specs.Schema.{bits_of, choices_of}
use Rattle.md_schema.specs.declared.column.CodedIndex.TheVariants.{TypeDefOrRef}
use Rattle.md_schema.specs.declared.table.Table.{Table}
use Rattle.md_schema.specs.declared.table.Table.TheVariants as tables
use Rattle.md_schema.proofs.CodesLemmas.{encoded}
use Rattle.wr_base.specs.Trees.{UseTree, same_use}
use Rattle.winmd_rows.specs.Values.{To}
use Rattle.winmd_lines.specs.Names.{Names, is_declared, named_row, place, token_of}
use Rattle.winmd_names.specs.InstanceRows.{row_among}
use Rattle.winmd_names.specs.Numbers.{row_code}
use Rattle.winmd_names.proofs.NumberLaws.{row_is}
use Rattle.winmd_uses.proofs.TakeLaws.{either}

abbrev target : ℕ → Option (Table × ℕ)
target number = target_of (bits_of TypeDefOrRef) (choices_of TypeDefOrRef) number

def_back : (row : ℕ) → target_of (bits_of TypeDefOrRef) (choices_of TypeDefOrRef) (row_code tables.TypeDef row) ≡ Some (tables.TypeDef, row)
def_back row = encoded (bits_of TypeDefOrRef) (choices_of TypeDefOrRef) tables.TypeDef row (omega arith)

ref_back : (row : ℕ) → target_of (bits_of TypeDefOrRef) (choices_of TypeDefOrRef) (row_code tables.TypeRef row) ≡ Some (tables.TypeRef, row)
ref_back row = encoded (bits_of TypeDefOrRef) (choices_of TypeDefOrRef) tables.TypeRef row (omega arith)

-- the row to which the number of a name leads
named_target : (names : Names) (full : List ℕ) → (found : Table × ℕ) × (target_of (bits_of TypeDefOrRef) (choices_of TypeDefOrRef) (token_of names full) ≡ Some found) × (To found.0 found.1 ≡ named_row names full)
named_target names full =
    elim (either (is_declared names.types full)) [
      | inl d ↦ ((tables.TypeDef, suc (suc (place (bytes_eq full) names.types))), rw d (def_back (suc (suc (place (bytes_eq full) names.types)))), rw d refl)
      | inr d ↦ ((tables.TypeRef, suc (place (bytes_eq full) names.refs)), rw d (ref_back (suc (place (bytes_eq full) names.refs))), rw d refl)
    ]

pub named_at : (names : Names) (full : List ℕ) (number : ℕ) (found : Table × ℕ) → number ≡ token_of names full → Some found ≡ target_of (bits_of TypeDefOrRef) (choices_of TypeDefOrRef) number → To found.0 found.1 ≡ named_row names full
named_at names full number found e f =
    let t = named_target names full in
    let same : found ≡ t.0 = same_Some found t.0 (f ∙ ap (target_of (bits_of TypeDefOrRef) (choices_of TypeDefOrRef)) e ∙ t.1) in
    ap (λ (x : Table × ℕ). To x.0 x.1) same ∙ t.2

pub never_none : (names : Names) (full : List ℕ) (number : ℕ) → number ≡ token_of names full → None ≡ target_of (bits_of TypeDefOrRef) (choices_of TypeDefOrRef) number → ⊥
never_none names full number e f = (let t = named_target names full in let bad : None ≡ Some t.0 = f ∙ ap (target_of (bits_of TypeDefOrRef) (choices_of TypeDefOrRef)) e ∙ t.1 in cc)

-- ---- instances

one : (n : ℕ) → 1 + n ≡ suc n
one n = omega arith

pub row_there : (us : List UseTree) (u : UseTree) (row : ℕ) → row_among 1 us u ≡ Some row → row ≡ suc (place (same_use u) us)
row_there us u row e = ap (λ (o : Option ℕ). unwrap_or o (1 + length us)) (sym e) ∙ row_is 1 us u ∙ one (place (same_use u) us)

pub row_missing : (us : List UseTree) (u : UseTree) → row_among 1 us u ≡ None → 1 + length us ≡ suc (place (same_use u) us)
row_missing us u e = ap (λ (o : Option ℕ). unwrap_or o (1 + length us)) (sym e) ∙ row_is 1 us u ∙ one (place (same_use u) us)

-- ---- a place that is looked for from the front

pub place_next : {A B : Type 0} (f : A → B) (p : B → Bool) (xs : List A) (i : ℕ) (d : A) → i < length xs → p (f (get_or xs i d)) ≡ false → i + place p (map f (drop i xs)) ≡ (i + 1) + place p (map f (drop (i + 1) xs))
place_next {A = A} f p xs i d l e =
    ap (λ (ys : List A). i + place p (map f ys)) (drop_more xs i d l) ∙ rw e (let more : i + suc (place p (map f (drop (i + 1) xs))) ≡ (i + 1) + place p (map f (drop (i + 1) xs)) = omega arith in more)

pub place_here : {A B : Type 0} (f : A → B) (p : B → Bool) (xs : List A) (i : ℕ) (d : A) → i < length xs → p (f (get_or xs i d)) ≡ true → i + place p (map f (drop i xs)) ≡ i
place_here {A = A} f p xs i d l e = ap (λ (ys : List A). i + place p (map f ys)) (drop_more xs i d l) ∙ rw e (let none : i + 0 ≡ i = omega arith in none)
