-- The root of the metadata is found in an image that is written.
use Rattle.std.proofs.Common.{◌≡◌, ℕ, ◌+◌, ◌-◌, ◌^◌, ◌<◌, ◌≤◌, true, List, [], ◌∷◌, length, take, drop, Ok, refl, arith, lit<}
use Rattle.std.specs.Prelude.{codes, bytes_eq, nat_le}
use Rattle.std.proofs.lemmas.Bool.{le-leb, eq-eqb}
use Rattle.md_bytes.specs.Bytes.{le, number_at}
use Rattle.md_bytes.specs.Stands.{Stands}
use Rattle.md_bytes.proofs.StandsLemmas.{stands_in, read_at}
use Rattle.md_bytes.proofs.NumberLemmas.{read_number}
use Rattle.md_schema.specs.declared.faults.ImageKind.TheVariants.{NotPe, NoCli}
use Rattle.winmd_image.specs.Faults.{field, begins}
use Rattle.winmd_image.specs.Parts.{Parts, Small}
use Rattle.winmd_image.specs.Pe.{in_sections, root_of}
use Rattle.md_bytes.specs.Padding.{zeros, up}
use Rattle.winmd_image.specs.Spelled.{dos_header, file_header, standard_fields, windows_fields, directories, optional_header, section_header, cli_header, metadata, image_bytes}
use Rattle.winmd_image.proofs.Headers.{laid, field_at, stands_length, sections_in, cli_in, cli_size_in, header_in, root_in, size_in, section_in, pe_read, length-metadata}

number_there : (bytes : List ℕ) (offset n : ℕ) → n < 256 ^ 4 → Stands bytes offset (le 4 n) → number_at bytes offset 4 ≡ n
number_there bytes offset n lt s = read_number bytes offset 4 n lt s

-- the one section holds each range within it
in_section : (p : Parts) (cell rva size : ℕ) → Small p → 0x2000 ≤ rva → rva + size ≤ 0x2000 + (72 + length (metadata p)) → in_sections (image_bytes p) 1 0x178 cell rva size ≡ Ok (0x200 + (rva - 0x2000))
in_section p cell rva size small low high =
    let m : ℕ = length (metadata p) in
    let n : ℕ = 72 + m in
    let long = length-metadata p in
    let sec = (laid p).section in
    let s3 = section_in n in
    let up_low : n ≤ up n 0x200 = omega arith in
    let up_high : up n 0x200 < 256 ^ 4 = omega arith in
    let e1 : number_at (image_bytes p) 388 4 ≡ 0x2000 = number_there (image_bytes p) 388 0x2000 (lit< tt) (stands_in (image_bytes p) (section_header n) (le 4 0x2000) 0x178 12 sec s3.0) in
    let e2 : number_at (image_bytes p) 392 4 ≡ up n 0x200 = number_there (image_bytes p) 392 (up n 0x200) up_high (stands_in (image_bytes p) (section_header n) (le 4 (up n 0x200)) 0x178 16 sec s3.1) in
    let e3 : number_at (image_bytes p) 396 4 ≡ 0x200 = number_there (image_bytes p) 396 0x200 (lit< tt) (stands_in (image_bytes p) (section_header n) (le 4 0x200) 0x178 20 sec s3.2) in
    let whole : 0x248 + m ≤ length (image_bytes p) = stands_length (image_bytes p) (metadata p) 0x248 (laid p).metadata in
    let t1 : nat_le 0x2000 rva ≡ true = le-leb _ _ low in
    let t2 : nat_le (rva + size) (0x2000 + up n 0x200) ≡ true = le-leb _ _ (omega arith) in
    let t3 : nat_le (0x200 + (rva - 0x2000) + size) (length (image_bytes p)) ≡ true = le-leb _ _ (omega arith) in
    rw (e1, e2, e3, t1, t2, t3) refl

mz_in : Stands dos_header 0 (codes "MZ")
unfolding dos_header zeros
mz_in = record { front = []; back = drop 2 dos_header; split = refl; at = refl }

signature_in : Stands file_header 0 (80 ∷ 69 ∷ 0 ∷ 0 ∷ [])
unfolding file_header
signature_in = record { front = []; back = drop 4 file_header; split = refl; at = refl }

magic_in : (n : ℕ) → Stands (optional_header n) 0 (le 2 0x10B)
unfolding standard_fields windows_fields directories zeros
magic_in n = record { front = []; back = drop 2 (optional_header n); split = refl; at = refl }

optional_in : Stands file_header 20 (le 2 0xE0)
unfolding file_header
optional_in = record { front = take 20 file_header; back = drop 22 file_header; split = refl; at = refl }

bytes_eq_same : (x : List ℕ) → bytes_eq x x ≡ true
bytes_eq_same [] = refl
bytes_eq_same (b ∷ bs) = rw (eq-eqb b b refl) (bytes_eq_same bs)

pub begins_at : (bytes text : List ℕ) (offset : ℕ) → Stands bytes offset text → begins bytes offset text ≡ true
begins_at bytes text offset s = rw (read_at bytes text offset (length text) refl s) (bytes_eq_same text)

-- the image has its one section header
sections_there : (p : Parts) → nat_le 0x1A0 (length (image_bytes p)) ≡ true
sections_there p = let whole : 0x248 + length (metadata p) ≤ length (image_bytes p) = stands_length (image_bytes p) (metadata p) 0x248 (laid p).metadata in le-leb _ _ (omega arith)

pub root_found : (p : Parts) → Small p → root_of (image_bytes p) ≡ Ok (record { offset = 0x248; size = length (metadata p) })
root_found p small =
    let m : ℕ = length (metadata p) in
    let n : ℕ = 72 + m in
    let long = length-metadata p in
    let img : List ℕ = image_bytes p in
    let l = laid p in
    let mz : begins img 0 (codes "MZ") ≡ true = begins_at img (codes "MZ") 0 (stands_in img dos_header (codes "MZ") 0 0 l.dos mz_in) in
    let pe : field img NotPe 0x3C 4 ≡ Ok 0x80 = pe_read p in
    let sig : begins img 0x80 (80 ∷ 69 ∷ 0 ∷ 0 ∷ []) ≡ true = begins_at img (80 ∷ 69 ∷ 0 ∷ 0 ∷ []) 0x80 (stands_in img file_header (80 ∷ 69 ∷ 0 ∷ 0 ∷ []) 0x80 0 l.file signature_in) in
    let secs : field img NotPe 0x86 2 ≡ Ok 1 = field_at img NotPe 0x86 2 1 (lit< tt) (stands_in img file_header (le 2 1) 0x80 6 l.file sections_in) in
    let opt : field img NotPe 0x94 2 ≡ Ok 0xE0 = field_at img NotPe 0x94 2 0xE0 (lit< tt) (stands_in img file_header (le 2 0xE0) 0x80 20 l.file optional_in) in
    let magic : field img NotPe 0x98 2 ≡ Ok 0x10B = field_at img NotPe 0x98 2 0x10B (lit< tt) (stands_in img (optional_header n) (le 2 0x10B) 0x98 0 l.optional (magic_in n)) in
    let rva : field img NotPe 0x168 4 ≡ Ok 0x2000 = field_at img NotPe 0x168 4 0x2000 (lit< tt) (stands_in img (optional_header n) (le 4 0x2000) 0x98 208 l.optional (cli_in n)) in
    let sized : field img NotPe 0x16C 4 ≡ Ok 72 = field_at img NotPe 0x16C 4 72 (lit< tt) (stands_in img (optional_header n) (le 4 72) 0x98 212 l.optional (cli_size_in n)) in
    let there = sections_there p in
    let cli : in_sections img 1 0x178 0x168 0x2000 72 ≡ Ok 0x200 = in_section p 0x168 0x2000 72 small (omega arith) (omega arith) in
    let header : field img NoCli 0x200 4 ≡ Ok 72 = field_at img NoCli 0x200 4 72 (lit< tt) (stands_in img (cli_header m) (le 4 72) 0x200 0 l.cli (header_in m)) in
    let root : field img NoCli 0x208 4 ≡ Ok 0x2048 = field_at img NoCli 0x208 4 0x2048 (lit< tt) (stands_in img (cli_header m) (le 4 0x2048) 0x200 8 l.cli (root_in m)) in
    let size : field img NoCli 0x20C 4 ≡ Ok m = field_at img NoCli 0x20C 4 m (omega arith) (stands_in img (cli_header m) (le 4 m) 0x200 12 l.cli (size_in m)) in
    let meta : in_sections img 1 0x178 0x208 0x2048 m ≡ Ok 0x248 = in_section p 0x208 0x2048 m small (omega arith) (omega arith) in
    rw (mz, pe, sig, secs, opt, magic, rva, sized, there, cli, header, root, size, meta) refl
