-- What names that fit have: two parts, none of which is `<Module>`, and no comma.
use Rattle.std.proofs.Common.{◌≡◌, ℕ, ◌^◌, ◌<◌, Bool, true, false, leb, List, [], ◌∷◌, ◌++◌, length, refl, subst, arith, inl, inr}
use Rattle.std.specs.Prelude.{◌||◌, ◌==◌, bytes_eq, codes}
use Rattle.std.specs.List.{AllByRecursion, list_all, slice_split, onto_first}
use Rattle.std.proofs.lemmas.Bool.{eqb-true, and_parts, leb-true}
use Rattle.std.proofs.lemmas.Slice.Eq.{bytes_eq-Decides}
use Rattle.std.proofs.lemmas.List.{append-nil}
use Rattle.wr_base.specs.Paths.{is_start, is_rest, is_identifier, parts_of, is_path, is_short_part}
use Rattle.wr_base.specs.Parts.{has, behind_last}
use Rattle.wr_base.proofs.PartLaws.{joined_parts, path_dot}
use Rattle.winmd_lines.proofs.LineLaws.{either}
use Rattle.winmd_sets.specs.Fits.{IsName}
use Rattle.winmd_sets.proofs.BlobLaws.{IsPath}
use Rattle.winmd_sets.proofs.NameLaws.{TwoParts}
use Rattle.winmd_sets.proofs.UsedLaws.{any_left}

pub name_path : (full : List ℕ) → IsName full → IsPath full
name_path full h = λ o. rw (h.path, h.short) refl

pub name_low : (full : List ℕ) → IsName full → length full < 2 ^ 29
name_low full h = let both = and_parts (leb (length full) 511) (list_all is_short_part (parts_of full)) h.short in let l = leb-true (length full) 511 both.0 in omega (arith, l)

-- ---- two parts

dot_first : (rest : List ℕ) → is_path (46 ∷ rest) ≡ true → ⊥
dot_first rest h = let both = and_parts (leb 2 (length (parts_of (46 ∷ rest)))) (list_all is_identifier (parts_of (46 ∷ rest))) h in let e = both.1 in cc

no_dot_first : (b : ℕ) (rest : List ℕ) → is_path (b ∷ rest) ≡ true → (b == 46) ≡ false
no_dot_first b rest h =
    elim (either (b == 46)) [
      | inl e ↦ absurd (dot_first rest (subst (λ (x : ℕ). is_path (x ∷ rest) ≡ true) (eqb-true b 46 e) h))
      | inr e ↦ e
    ]

joined_again : (b : ℕ) (rest : List ℕ) → has 46 (b ∷ rest) ≡ true → (b == 46) ≡ false → TwoParts (b ∷ rest)
joined_again b rest h n =
    elim (either (has 46 rest)) [
      | inl e ↦ (let whole = joined_parts 46 (b ∷ rest) h in let j = rw e at whole in rw e j)
      | inr e ↦ absurd (let r = rw (n, e) at h in cc)
    ]

-- with anything behind it
pub path_parts : (full tail : List ℕ) → is_path full ≡ true → TwoParts (full ++ tail)
path_parts [] tail h = absurd (let e = path_dot [] h in cc)
path_parts (b ∷ rest) tail h = joined_again b (rest ++ tail) (any_left (λ c. c == 46) (b ∷ rest) tail (path_dot (b ∷ rest) h)) (no_dot_first b rest h)

pub name_parts : (full : List ℕ) → IsName full → TwoParts full
name_parts full h = subst TwoParts (append-nil full) (path_parts full [] h.path)

-- ---- the bytes of a path

abbrev in_path : ℕ → Bool
in_path b = is_rest b || b == 46

rest_in : (b : ℕ) → is_rest b ≡ true → in_path b ≡ true
rest_in b h = rw h refl

rests_in : (bytes : List ℕ) → list_all is_rest bytes ≡ true → list_all in_path bytes ≡ true
rests_in [] h = refl
rests_in (b ∷ bytes) h = let both = and_parts (is_rest b) (list_all is_rest bytes) h in rw (rest_in b both.0, rests_in bytes both.1) refl

identifier_in : (bytes : List ℕ) → is_identifier bytes ≡ true → list_all in_path bytes ≡ true
identifier_in [] h = refl
identifier_in (b ∷ bytes) h = let both = and_parts _ (list_all is_rest bytes) h in rw (start_in b both.0, rests_in bytes both.1) refl
  where
    start_in : (c : ℕ) → is_start c ≡ true → in_path c ≡ true
    start_in c k = rw k refl

identifiers_in : (parts : List (List ℕ)) → list_all is_identifier parts ≡ true → AllByRecursion (λ part. list_all in_path part ≡ true) parts
identifiers_in [] h = tt
identifiers_in (part ∷ parts) h = let both = and_parts (is_identifier part) (list_all is_identifier parts) h in (identifier_in part both.0, identifiers_in parts both.1)

onto_in : (b : ℕ) (parts : List (List ℕ)) → AllByRecursion (λ part. list_all in_path part ≡ true) (onto_first b parts) → (in_path b ≡ true) × AllByRecursion (λ part. list_all in_path part ≡ true) parts
onto_in b [] h = (let both = and_parts (in_path b) true h.0 in both.0, tt)
onto_in b (part ∷ parts) h = let both = and_parts (in_path b) (list_all in_path part) h.0 in (both.0, (both.1, h.1))

split_in : (bytes : List ℕ) → AllByRecursion (λ part. list_all in_path part ≡ true) (slice_split (λ b. b == 46) bytes) → list_all in_path bytes ≡ true
split_in [] h = refl
split_in (b ∷ bytes) h =
    elim (either (b == 46)) [
      | inl e ↦
          let parts = rw e at h in
          let dot : in_path b ≡ true = or_dot (is_rest b) (b == 46) e in
          rw (dot, split_in bytes parts.1) refl
      | inr e ↦
          let parts = rw e at h in
          let both = onto_in b (slice_split (λ c. c == 46) bytes) parts in
          rw (both.0, split_in bytes both.1) refl
    ]
  where
    or_dot : (x y : Bool) → y ≡ true → (x || y) ≡ true
    or_dot true y h = refl
    or_dot false y h = h

path_in : (full : List ℕ) → is_path full ≡ true → list_all in_path full ≡ true
path_in full h = let both = and_parts (leb 2 (length (parts_of full))) (list_all is_identifier (parts_of full)) h in split_in full (identifiers_in (parts_of full) both.1)

behind_in : (full : List ℕ) → list_all in_path full ≡ true → list_all in_path (behind_last 46 full) ≡ true
behind_in [] h = refl
behind_in (b ∷ bs) h =
    let both = and_parts (in_path b) (list_all in_path bs) h in
    elim (either (has 46 (b ∷ bs))) [
      | inl e ↦ rw e (behind_in bs both.1)
      | inr e ↦ rw e h
    ]

-- no type of a set is `<Module>`
pub not_module : (full : List ℕ) → IsName full → bytes_eq (behind_last 46 full) (codes "<Module>") ≡ false
not_module full h =
    elim (either (bytes_eq (behind_last 46 full) (codes "<Module>"))) [
      | inl e ↦
          let same : behind_last 46 full ≡ codes "<Module>" = (bytes_eq-Decides (behind_last 46 full) (codes "<Module>")).0 e in
          let all : list_all in_path (codes "<Module>") ≡ true = subst (λ (x : List ℕ). list_all in_path x ≡ true) same (behind_in full (path_in full h.path)) in
          absurd (let c : false ≡ true = all in cc)
      | inr e ↦ e
    ]
