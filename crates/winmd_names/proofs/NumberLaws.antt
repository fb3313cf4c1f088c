-- The numbers of names are those of their rows.
use Rattle.std.proofs.Common.{◌≡◌, ℕ, suc, ◌+◌, true, false, List, [], ◌∷◌, map, length, refl, sym, ap, ◌∙◌, arith, inl, inr}
use Rattle.std.specs.Prelude.{String, string_bytes, if◌then◌else◌}
use Rattle.std.specs.declared.alloc.Global.{Global}
use Rattle.std.proofs.lemmas.List.{length-map}
use Rattle.std.specs.Option.{unwrap_or}
use Rattle.std.specs.Str.{bytes_eq}
use Rattle.std.specs.Cmp.Lexicographic.{bytes_decides}
use Rattle.md_schema.specs.declared.table.Table.TheVariants as tables
use Rattle.wr_base.specs.Trees.{UseTree, same_use}
use Rattle.winmd_lines.specs.Makers.{Maker}
use Rattle.winmd_lines.specs.Names.{is_declared, is_outside, place, token_of}
use Rattle.winmd_names.specs.InstanceRows.{row_among}
use Rattle.winmd_names.specs.Numbers.{def_number, ref_number, row_code}
use Rattle.winmd_uses.proofs.TakeLaws.{either}

ref_is : (row : ℕ) (ns : List (List ℕ)) (full : List ℕ) → ref_number row ns full (row_code tables.TypeRef (row + length ns)) ≡ row_code tables.TypeRef (row + place (bytes_eq full) ns)
ref_is row [] full = refl
ref_is row (n ∷ ns) full =
    elim (either (bytes_eq full n)) [
      | inl e ↦ rw e (ap (row_code tables.TypeRef) (let z : row ≡ row + 0 = omega arith in z))
      | inr e ↦
          let more : row + suc (length ns) ≡ suc row + length ns = omega arith in
          let back : suc row + place (bytes_eq full) ns ≡ row + suc (place (bytes_eq full) ns) = omega arith in
          rw e (ap (λ (k : ℕ). ref_number (suc row) ns full (row_code tables.TypeRef k)) more ∙ ref_is (suc row) ns full ∙ ap (row_code tables.TypeRef) back)
    ]

def_is : (row : ℕ) (ns : List (List ℕ)) (full : List ℕ) (other : ℕ) → def_number row ns full other ≡ (if is_declared ns full then row_code tables.TypeDef (row + place (bytes_eq full) ns) else other)
def_is row [] full other = elim (either (is_outside full)) [
  | inl o ↦ rw o refl
  | inr o ↦ rw o refl
]
def_is row (n ∷ ns) full other =
    let back : suc row + place (bytes_eq full) ns ≡ row + suc (place (bytes_eq full) ns) = omega arith in
    elim (either (bytes_eq full n)) [
      | inl e ↦
          let is : n ≡ full = sym ((bytes_decides full n).0 e) in
          elim (either (is_outside full)) [
            | inl o ↦ (let o2 : is_outside n ≡ true = ap is_outside is ∙ o in rw (e, o2, o) (def_is (suc row) ns full other ∙ rw o refl))
            | inr o ↦ (let o2 : is_outside n ≡ false = ap is_outside is ∙ o in rw (e, o2, o) (ap (row_code tables.TypeDef) (let z : row ≡ row + 0 = omega arith in z)))
          ]
      | inr e ↦ rw e (def_is (suc row) ns full other ∙ ap (λ (k : ℕ). if is_declared ns full then row_code tables.TypeDef k else other) back)
    ]

pub numbers_are : (types refs : List (List ℕ)) (specs : List UseTree) (makers : List Maker) (full : List ℕ)
    → def_number 2 types full (ref_number 1 refs full (row_code tables.TypeRef (suc (length refs)))) ≡ token_of (record { types = types; refs = refs; specs = specs; makers = makers }) full
numbers_are types refs specs makers full =
    def_is 2 types full (ref_number 1 refs full (row_code tables.TypeRef (suc (length refs))))
    ∙ elim (either (is_declared types full)) [
      | inl d ↦ rw d (ap (row_code tables.TypeDef) (two (place (bytes_eq full) types)))
      | inr d ↦ rw d (ap (λ (k : ℕ). ref_number 1 refs full (row_code tables.TypeRef k)) (one (length refs)) ∙ ref_is 1 refs full ∙ ap (row_code tables.TypeRef) (sym (one (place (bytes_eq full) refs))))
    ]
  where
    two : (n : ℕ) → 2 + n ≡ suc (suc n)
    two n = omega arith

    one : (n : ℕ) → suc n ≡ 1 + n
    one n = omega arith

-- the same of texts
pub numbers_exact : (types : List (List ℕ)) (refs : List (String Global)) (specs : List UseTree) (makers : List Maker) (full : List ℕ)
    → def_number 2 types full (ref_number 1 (map string_bytes refs) full (row_code tables.TypeRef (suc (length refs)))) ≡ token_of (record { types = types; refs = map string_bytes refs; specs = specs; makers = makers }) full
numbers_exact types refs specs makers full =
    ap (λ (k : ℕ). def_number 2 types full (ref_number 1 (map string_bytes refs) full (row_code tables.TypeRef (suc k)))) (sym (length-map refs string_bytes)) ∙ numbers_are types (map string_bytes refs) specs makers full

-- ---- rows that are put from the last on

pub row_is : (row : ℕ) (us : List UseTree) (u : UseTree) → unwrap_or (row_among row us u) (row + length us) ≡ row + place (same_use u) us
row_is row [] u = refl
row_is row (v ∷ vs) u =
    elim (either (same_use u v)) [
      | inl e ↦ rw e (let z : row ≡ row + 0 = omega arith in z)
      | inr e ↦
          let more : row + suc (length vs) ≡ suc row + length vs = omega arith in
          let back : suc row + place (same_use u) vs ≡ row + suc (place (same_use u) vs) = omega arith in
          rw e (ap (λ (k : ℕ). unwrap_or (row_among (suc row) vs u) k) more ∙ row_is (suc row) vs u ∙ back)
    ]
