-- What stands where in an image that is written.
use Rattle.std.proofs.Common.{◌≡◌, ℕ, ◌+◌, ◌-◌, ◌^◌, ◌<◌, ◌≤◌, false, ltb, List, [], ◌++◌, length, take, drop, Ok, refl, sym, ap, arith, length-append, lit<}
use Rattle.std.specs.Prelude.{codes}
use Rattle.std.proofs.lemmas.List.{append-nil}
use Rattle.std.proofs.lemmas.Bool.{le-ltb}
use Rattle.md_bytes.specs.Bytes.{le}
use Rattle.md_bytes.specs.Stands.{Stands}
use Rattle.md_bytes.proofs.StandsLemmas.{stands_first, stands_before, stands_in}
use Rattle.md_bytes.proofs.NumberLemmas.{length-le, read_number}
use Rattle.md_schema.specs.declared.faults.ImageKind.{ImageKind}
use Rattle.md_schema.specs.declared.faults.ImageKind.TheVariants.{NotPe}
use Rattle.winmd_image.specs.Faults.{field}
use Rattle.winmd_image.specs.Parts.{Parts, size_of}
use Rattle.md_bytes.specs.Padding.{zeros, up}
use Rattle.winmd_image.specs.Spelled.{dos_header, file_header, standard_fields, windows_fields, directories, optional_header, section_header, cli_header, root_head, stream_heads, metadata_head, metadata, image_bytes}

pub stands_last : (front part : List ℕ) (n : ℕ) → length front ≡ n → Stands (front ++ part) n part
stands_last front part n e = record { front = front; back = []; split = ap (λ x. front ++ x) (sym (append-nil part)); at = e }

pub stands_length : (whole part : List ℕ) (offset : ℕ) → Stands whole offset part → offset + length part ≤ length whole
stands_length whole part offset s = omega (arith, ap length s.split, length-append s.front (part ++ s.back), length-append part s.back, s.at)

-- a number that stands at an offset is read there
pub field_at : (bytes : List ℕ) (kind : ImageKind) (offset w n : ℕ) → n < 256 ^ w → Stands bytes offset (le w n) → field bytes kind offset w ≡ Ok n
field_at bytes kind offset w n lt s =
    let fits : ltb (length bytes) (offset + w) ≡ false = le-ltb _ _ (omega (arith, stands_length bytes (le w n) offset s, length-le w n)) in
    rw fits (ap (λ (k : ℕ). Ok k) (read_number bytes offset w n lt s))

length-dos : length dos_header ≡ 0x80
unfolding dos_header zeros
length-dos = refl

length-file : length file_header ≡ 24
unfolding file_header
length-file = refl

length-optional : (n : ℕ) → length (optional_header n) ≡ 224
unfolding standard_fields windows_fields directories zeros
length-optional n = refl

length-section : (n : ℕ) → length (section_header n) ≡ 40
unfolding section_header zeros
length-section n = refl

length-cli : (n : ℕ) → length (cli_header n) ≡ 72
unfolding cli_header zeros
length-cli n = refl

length-gap : length (zeros 0x60) ≡ 0x60
unfolding zeros
length-gap = refl

-- the parts of the file
pub record Laid (p : Parts) : Type 0 where
  pub dos : Stands (image_bytes p) 0 dos_header
  pub file : Stands (image_bytes p) 0x80 file_header
  pub optional : Stands (image_bytes p) 0x98 (optional_header (72 + length (metadata p)))
  pub section : Stands (image_bytes p) 0x178 (section_header (72 + length (metadata p)))
  pub cli : Stands (image_bytes p) 0x200 (cli_header (length (metadata p)))
  pub metadata : Stands (image_bytes p) 0x248 (metadata p)

pub laid : (p : Parts) → Laid p
laid p =
    let m : ℕ = length (metadata p) in
    let size : ℕ = 72 + m in
    let a1 : List ℕ = dos_header ++ file_header in
    let a2 : List ℕ = a1 ++ optional_header size in
    let a3 : List ℕ = a2 ++ section_header size in
    let a4 : List ℕ = a3 ++ zeros 0x60 in
    let a5 : List ℕ = a4 ++ cli_header m in
    let a6 : List ℕ = a5 ++ metadata p in
    let pad : List ℕ = zeros (up size 0x200 - size) in
    let l1 : length a1 ≡ 0x98 = omega (arith, length-append dos_header file_header, length-dos, length-file) in
    let l2 : length a2 ≡ 0x178 = omega (arith, length-append a1 (optional_header size), length-optional size) in
    let l3 : length a3 ≡ 0x1A0 = omega (arith, length-append a2 (section_header size), length-section size) in
    let l4 : length a4 ≡ 0x200 = omega (arith, length-append a3 (zeros 0x60), length-gap) in
    let l5 : length a5 ≡ 0x248 = omega (arith, length-append a4 (cli_header m), length-cli m) in
    let b6 : (x : List ℕ) (n : ℕ) → Stands a6 n x → Stands (image_bytes p) n x = λ x n s. stands_before a6 pad x n s in
    let b5 : (x : List ℕ) (n : ℕ) → Stands a5 n x → Stands (image_bytes p) n x = λ x n s. b6 x n (stands_before a5 (metadata p) x n s) in
    let b4 : (x : List ℕ) (n : ℕ) → Stands a4 n x → Stands (image_bytes p) n x = λ x n s. b5 x n (stands_before a4 (cli_header m) x n s) in
    let b3 : (x : List ℕ) (n : ℕ) → Stands a3 n x → Stands (image_bytes p) n x = λ x n s. b4 x n (stands_before a3 (zeros 0x60) x n s) in
    let b2 : (x : List ℕ) (n : ℕ) → Stands a2 n x → Stands (image_bytes p) n x = λ x n s. b3 x n (stands_before a2 (section_header size) x n s) in
    let b1 : (x : List ℕ) (n : ℕ) → Stands a1 n x → Stands (image_bytes p) n x = λ x n s. b2 x n (stands_before a1 (optional_header size) x n s) in
    record {
      dos = b1 dos_header 0 (stands_first dos_header file_header);
      file = b1 file_header 0x80 (stands_last dos_header file_header 0x80 length-dos);
      optional = b2 (optional_header size) 0x98 (stands_last a1 (optional_header size) 0x98 l1);
      section = b3 (section_header size) 0x178 (stands_last a2 (section_header size) 0x178 l2);
      cli = b5 (cli_header m) 0x200 (stands_last a4 (cli_header m) 0x200 l4);
      metadata = b6 (metadata p) 0x248 (stands_last a5 (metadata p) 0x248 l5);
    }

-- ---- numbers in them

here : (front : List ℕ) (n k offset w : ℕ) (back whole : List ℕ) → whole ≡ front ++ (le w k ++ back) → length front ≡ offset → Stands whole offset (le w k)
here front n k offset w back whole e l = record { front = front; back = back; split = e; at = l }

pe_in : Stands dos_header 0x3C (le 4 0x80)
unfolding dos_header zeros
pe_in = record { front = codes "MZ" ++ zeros 0x3A; back = zeros 0x40; split = refl; at = refl }

pub pe_read : (p : Parts) → field (image_bytes p) NotPe 0x3C 4 ≡ Ok 0x80
pe_read p = field_at (image_bytes p) NotPe 0x3C 4 0x80 (lit< tt) (stands_in (image_bytes p) dos_header (le 4 0x80) 0 0x3C (laid p).dos pe_in)

pub sections_in : Stands file_header 6 (le 2 1)
unfolding file_header
sections_in = record { front = take 6 file_header; back = drop 8 file_header; split = refl; at = refl }

-- the address and the size of the CLI header
pub cli_in : (n : ℕ) → Stands (optional_header n) 208 (le 4 0x2000)
unfolding standard_fields windows_fields directories zeros
cli_in n = record { front = take 208 (optional_header n); back = drop 212 (optional_header n); split = refl; at = refl }

pub cli_size_in : (n : ℕ) → Stands (optional_header n) 212 (le 4 72)
unfolding standard_fields windows_fields directories zeros
cli_size_in n = record { front = take 212 (optional_header n); back = drop 216 (optional_header n); split = refl; at = refl }

-- the size of the CLI header, where the metadata stands, and how long it is
pub header_in : (m : ℕ) → Stands (cli_header m) 0 (le 4 72)
unfolding cli_header zeros
header_in m = record { front = []; back = drop 4 (cli_header m); split = refl; at = refl }

pub root_in : (m : ℕ) → Stands (cli_header m) 8 (le 4 0x2048)
unfolding cli_header zeros
root_in m = record { front = take 8 (cli_header m); back = drop 12 (cli_header m); split = refl; at = refl }

pub size_in : (m : ℕ) → Stands (cli_header m) 12 (le 4 m)
unfolding cli_header zeros
size_in m = record { front = take 12 (cli_header m); back = drop 16 (cli_header m); split = refl; at = refl }

pub section_in : (n : ℕ) → Stands (section_header n) 12 (le 4 0x2000) × Stands (section_header n) 16 (le 4 (up n 0x200)) × Stands (section_header n) 20 (le 4 0x200)
unfolding section_header zeros
section_in n = (record { front = take 12 (section_header n); back = drop 16 (section_header n); split = refl; at = refl }, record { front = take 16 (section_header n); back = drop 20 (section_header n); split = refl; at = refl }, record { front = take 20 (section_header n); back = drop 24 (section_header n); split = refl; at = refl })

-- ---- how long it is

pub length-head : (p : Parts) → length (metadata_head p) ≡ 116
unfolding root_head stream_heads zeros
length-head p = refl

pub length-metadata : (p : Parts) → length (metadata p) ≡ 116 + size_of p
unfolding metadata
length-metadata p =
    let a0 : List ℕ = metadata_head p in
    let a1 : List ℕ = a0 ++ p.tables in
    let a2 : List ℕ = a1 ++ p.texts in
    let a3 : List ℕ = a2 ++ p.users in
    let whole : length (metadata p) ≡ length (a3 ++ p.guids) + length p.blobs = length-append (a3 ++ p.guids) p.blobs in
    omega (arith, whole, length-append a3 p.guids, length-append a2 p.users, length-append a1 p.texts, length-append a0 p.tables, length-head p)
