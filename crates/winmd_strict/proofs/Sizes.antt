-- A strict image states its own size, so that nothing stands behind it.
use Rattle.std.proofs.Common.{◌≡◌, ℕ, ◌+◌, ◌-◌, ◌^◌, ◌<◌, ◌≤◌, List, [], ◌++◌, length, refl, sym, subst, arith, length-append}
use Rattle.std.proofs.lemmas.List.{append-nil}
use Rattle.md_bytes.specs.Bytes.{le, number_at}
use Rattle.md_bytes.specs.Padding.{zeros, up}
use Rattle.md_bytes.specs.Stands.{Stands}
use Rattle.md_bytes.proofs.NumberLemmas.{read_number}
use Rattle.md_bytes.proofs.ZeroLemmas.{length-zeros}
use Rattle.md_bytes.proofs.StandsLemmas.{stands_before, stands_in}
use Rattle.winmd_image.specs.Parts.{Parts, Small}
use Rattle.winmd_image.specs.Spelled.{dos_header, file_header, standard_fields, windows_fields, directories, optional_header, section_header, cli_header, metadata, image_bytes}
use Rattle.winmd_image.proofs.Headers.{laid, section_in, length-metadata}
use Rattle.winmd_sets.specs.Rows.{rows_of}
use Rattle.winmd_strict.specs.Placed.{numbers_of, parts_with}
use Rattle.winmd_strict.specs.Strict.{Strict}

length_front : (n m : ℕ) → length (dos_header ++ file_header ++ optional_header n ++ section_header n ++ zeros 0x60 ++ cli_header m) ≡ 0x248
unfolding dos_header file_header standard_fields windows_fields directories section_header cli_header zeros
length_front n m = refl

length_image : (p : Parts) → length (image_bytes p) ≡ 0x200 + up (72 + length (metadata p)) 0x200
length_image p =
    let m : ℕ = length (metadata p) in
    let front : List ℕ = dos_header ++ file_header ++ optional_header (72 + m) ++ section_header (72 + m) ++ zeros 0x60 ++ cli_header m in
    let pad : List ℕ = zeros (up (72 + m) 0x200 - (72 + m)) in
    let rounded : 72 + m ≤ up (72 + m) 0x200 = omega arith in
    omega (arith, length-append (front ++ metadata p) pad, length-append front (metadata p), length_front (72 + m) m, length-zeros (up (72 + m) 0x200 - (72 + m)), rounded)

-- whatever stands behind it
size_stated : (p : Parts) (more : List ℕ) → Small p → number_at (image_bytes p ++ more) 0x188 4 ≡ up (72 + length (metadata p)) 0x200
size_stated p more small =
    let m : ℕ = length (metadata p) in
    let raw : ℕ = up (72 + m) 0x200 in
    let low : raw < 256 ^ 4 = (let l = length-metadata p in omega (arith, l, small)) in
    let here : Stands (image_bytes p) (0x178 + 16) (le 4 raw) = stands_in (image_bytes p) (section_header (72 + m)) (le 4 raw) 0x178 16 (laid p).section (section_in (72 + m)).1 in
    read_number (image_bytes p ++ more) 0x188 4 raw low (stands_before (image_bytes p) more (le 4 raw) 0x188 here)

-- the size of a strict image, by its section's header
strict_size : (bytes more : List ℕ) → Strict bytes → number_at (bytes ++ more) 0x188 4 + 0x200 ≡ length bytes
strict_size bytes more s =
    let p : Parts = parts_with s.heaps.texts.bytes s.heaps.blobs.bytes (numbers_of s.heaps (rows_of s.declared)) in
    let a = size_stated p more s.small in
    let b = length_image p in
    subst (λ (x : List ℕ). number_at (x ++ more) 0x188 4 + 0x200 ≡ length x) (sym s.spelled) (omega (arith, a, b))

pub no_slack : (bytes slack : List ℕ) → 0 < length slack → Strict bytes → Strict (bytes ++ slack) → ⊥
no_slack bytes slack some s t =
    let a = strict_size bytes slack s in
    let b : number_at (bytes ++ slack) 0x188 4 + 0x200 ≡ length (bytes ++ slack) = subst (λ (x : List ℕ). number_at x 0x188 4 + 0x200 ≡ length (bytes ++ slack)) (append-nil (bytes ++ slack)) (strict_size (bytes ++ slack) [] t) in
    omega (arith, a, b, length-append bytes slack, some)
