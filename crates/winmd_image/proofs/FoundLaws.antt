-- The streams are found in an image that is written.
use Rattle.std.proofs.Common.{◌≡◌, ℕ, suc, ◌+◌, ◌^◌, ◌<◌, ◌≤◌, true, List, [], ◌∷◌, ◌++◌, length, take, drop, Result, Ok, refl, ap, ◌∙◌, arith, length-append, lit<}
use Rattle.std.specs.Prelude.{codes, nat_le}
use Rattle.std.proofs.lemmas.Bool.{le-leb}
use Rattle.std.proofs.lemmas.List.{drop_at}
use Rattle.md_bytes.specs.Bytes.{le, part_at}
use Rattle.md_bytes.specs.Stands.{Stands}
use Rattle.md_bytes.proofs.StandsLemmas.{stands_first, stands_before, stands_in, read_at}
use Rattle.md_schema.specs.declared.faults.ImageKind.TheVariants.{BadStream, NoRoot}
use Rattle.winmd_image.specs.Faults.{field, begins, ◌>>=◌}
use Rattle.md_schema.specs.declared.faults.ImageFault.{ImageFault}
use Rattle.winmd_image.specs.Parts.{Parts, Small}
use Rattle.winmd_image.specs.Root.{name_to_zero, headers, Stream, streams_of}
use Rattle.winmd_image.specs.Slices.{Slices, slices_in, unwrapped}
use Rattle.winmd_image.specs.Laws.{slices_of}
use Rattle.md_schema.specs.Streams.{Range, Streams}
use Rattle.md_bytes.specs.Padding.{zeros, up}
use Rattle.winmd_image.specs.Spelled.{metadata, metadata_head, root_head, stream_heads, image_bytes}
use Rattle.winmd_image.proofs.Headers.{laid, field_at, stands_last, length-head, length-metadata}
use Rattle.winmd_image.proofs.Roots.{root_found, begins_at}

header_step : (bytes : List ℕ) (metadata : Range) (count at offset len : ℕ) (name : List ℕ) (others : List Stream) → field bytes BadStream at 4 ≡ Ok offset → field bytes BadStream (at + 4) 4 ≡ Ok len → offset + len ≤ metadata.size
    → name_to_zero (part_at bytes (at + 8) 32) ≡ name → headers bytes metadata count (at + 8 + up (suc (length name)) 4) ≡ Ok others
    → headers bytes metadata (suc count) at ≡ Ok ((record { name = name; range = record { offset = metadata.offset + offset; size = len } }) ∷ others)
header_step bytes metadata count at offset len name others f1 f2 fits n h =
    let t : nat_le (offset + len) metadata.size ≡ true = le-leb _ _ fits in
    rw (f1, f2, t, n, h) refl

name_at : (bytes cells name : List ℕ) (at : ℕ) → Stands bytes at cells → ((back : List ℕ) → name_to_zero (take 32 (cells ++ back)) ≡ name) → name_to_zero (part_at bytes at 32) ≡ name
name_at bytes cells name at s h = ap (λ (x : List ℕ). name_to_zero (take 32 (drop at x))) s.split ∙ ap (λ (x : List ℕ). name_to_zero (take 32 x)) (drop_at s.front (cells ++ s.back) at s.at) ∙ h s.back

-- a part of the head, by what computes
cut : (p : Parts) (i : ℕ) (cells : List ℕ) → metadata_head p ≡ take i (metadata_head p) ++ (cells ++ drop (i + length cells) (metadata_head p)) → length (take i (metadata_head p)) ≡ i → Stands (metadata_head p) i cells
cut p i cells e l = record { front = take i (metadata_head p); back = drop (i + length cells) (metadata_head p); split = e; at = l }

pub record Head (p : Parts) : Type 0 where
  pub root : Stands (metadata_head p) 0 (0x42 ∷ 0x53 ∷ 0x4A ∷ 0x42 ∷ [])
  pub long : Stands (metadata_head p) 12 (le 4 20)
  pub version : Stands (metadata_head p) 16 (codes "WindowsRuntime 1.")
  pub count : Stands (metadata_head p) 38 (le 2 5)
  pub at1 : Stands (metadata_head p) 40 (le 4 116)
  pub len1 : Stands (metadata_head p) 44 (le 4 (length p.tables))
  pub name1 : Stands (metadata_head p) 48 (codes "#~" ++ 0 ∷ [])
  pub at2 : Stands (metadata_head p) 52 (le 4 (116 + length p.tables))
  pub len2 : Stands (metadata_head p) 56 (le 4 (length p.texts))
  pub name2 : Stands (metadata_head p) 60 (codes "#Strings" ++ 0 ∷ [])
  pub at3 : Stands (metadata_head p) 72 (le 4 (116 + length p.tables + length p.texts))
  pub len3 : Stands (metadata_head p) 76 (le 4 (length p.users))
  pub name3 : Stands (metadata_head p) 80 (codes "#US" ++ 0 ∷ [])
  pub at4 : Stands (metadata_head p) 84 (le 4 (116 + length p.tables + length p.texts + length p.users))
  pub len4 : Stands (metadata_head p) 88 (le 4 (length p.guids))
  pub name4 : Stands (metadata_head p) 92 (codes "#GUID" ++ 0 ∷ [])
  pub at5 : Stands (metadata_head p) 100 (le 4 (116 + length p.tables + length p.texts + length p.users + length p.guids))
  pub len5 : Stands (metadata_head p) 104 (le 4 (length p.blobs))
  pub name5 : Stands (metadata_head p) 108 (codes "#Blob" ++ 0 ∷ [])

head : (p : Parts) → Head p
unfolding root_head stream_heads zeros
head p = record {
  root = cut p 0 (0x42 ∷ 0x53 ∷ 0x4A ∷ 0x42 ∷ []) refl refl;
  long = cut p 12 (le 4 20) refl refl;
  version = cut p 16 (codes "WindowsRuntime 1.") refl refl;
  count = cut p 38 (le 2 5) refl refl;
  at1 = cut p 40 (le 4 116) refl refl;
  len1 = cut p 44 (le 4 (length p.tables)) refl refl;
  name1 = cut p 48 (codes "#~" ++ 0 ∷ []) refl refl;
  at2 = cut p 52 (le 4 (116 + length p.tables)) refl refl;
  len2 = cut p 56 (le 4 (length p.texts)) refl refl;
  name2 = cut p 60 (codes "#Strings" ++ 0 ∷ []) refl refl;
  at3 = cut p 72 (le 4 (116 + length p.tables + length p.texts)) refl refl;
  len3 = cut p 76 (le 4 (length p.users)) refl refl;
  name3 = cut p 80 (codes "#US" ++ 0 ∷ []) refl refl;
  at4 = cut p 84 (le 4 (116 + length p.tables + length p.texts + length p.users)) refl refl;
  len4 = cut p 88 (le 4 (length p.guids)) refl refl;
  name4 = cut p 92 (codes "#GUID" ++ 0 ∷ []) refl refl;
  at5 = cut p 100 (le 4 (116 + length p.tables + length p.texts + length p.users + length p.guids)) refl refl;
  len5 = cut p 104 (le 4 (length p.blobs)) refl refl;
  name5 = cut p 108 (codes "#Blob" ++ 0 ∷ []) refl refl;
}

-- the streams in the metadata
pub record Bodies (p : Parts) : Type 0 where
  pub head : Stands (metadata p) 0 (metadata_head p)
  pub tables : Stands (metadata p) 116 p.tables
  pub texts : Stands (metadata p) (116 + length p.tables) p.texts
  pub users : Stands (metadata p) (116 + length p.tables + length p.texts) p.users
  pub guids : Stands (metadata p) (116 + length p.tables + length p.texts + length p.users) p.guids
  pub blobs : Stands (metadata p) (116 + length p.tables + length p.texts + length p.users + length p.guids) p.blobs

bodies : (p : Parts) → Bodies p
unfolding metadata
bodies p =
    let a0 : List ℕ = metadata_head p in
    let a1 : List ℕ = a0 ++ p.tables in
    let a2 : List ℕ = a1 ++ p.texts in
    let a3 : List ℕ = a2 ++ p.users in
    let a4 : List ℕ = a3 ++ p.guids in
    let l1 : length a1 ≡ 116 + length p.tables = omega (arith, length-append a0 p.tables, length-head p) in
    let l2 : length a2 ≡ 116 + length p.tables + length p.texts = omega (arith, length-append a1 p.texts, l1) in
    let l3 : length a3 ≡ 116 + length p.tables + length p.texts + length p.users = omega (arith, length-append a2 p.users, l2) in
    let l4 : length a4 ≡ 116 + length p.tables + length p.texts + length p.users + length p.guids = omega (arith, length-append a3 p.guids, l3) in
    let b4 : (x : List ℕ) (n : ℕ) → Stands a4 n x → Stands (a4 ++ p.blobs) n x = λ x n s. stands_before a4 p.blobs x n s in
    let b3 : (x : List ℕ) (n : ℕ) → Stands a3 n x → Stands (a4 ++ p.blobs) n x = λ x n s. b4 x n (stands_before a3 p.guids x n s) in
    let b2 : (x : List ℕ) (n : ℕ) → Stands a2 n x → Stands (a4 ++ p.blobs) n x = λ x n s. b3 x n (stands_before a2 p.users x n s) in
    let b1 : (x : List ℕ) (n : ℕ) → Stands a1 n x → Stands (a4 ++ p.blobs) n x = λ x n s. b2 x n (stands_before a1 p.texts x n s) in
    record {
      head = b1 a0 0 (stands_first a0 p.tables);
      tables = b1 p.tables 116 (stands_last a0 p.tables 116 (length-head p));
      texts = b2 p.texts (116 + length p.tables) (stands_last a1 p.texts (116 + length p.tables) l1);
      users = b3 p.users (116 + length p.tables + length p.texts) (stands_last a2 p.users (116 + length p.tables + length p.texts) l2);
      guids = b4 p.guids (116 + length p.tables + length p.texts + length p.users) (stands_last a3 p.guids (116 + length p.tables + length p.texts + length p.users) l3);
      blobs = stands_last a4 p.blobs (116 + length p.tables + length p.texts + length p.users + length p.guids) l4;
    }

abbrev pub streams_in : Parts → Streams
streams_in p = record {
  tables = record { offset = 584 + 116; size = length p.tables };
  texts = record { offset = 584 + (116 + length p.tables); size = length p.texts };
  users = record { offset = 584 + (116 + length p.tables + length p.texts); size = length p.users };
  guids = record { offset = 584 + (116 + length p.tables + length p.texts + length p.users); size = length p.guids };
  blobs = record { offset = 584 + (116 + length p.tables + length p.texts + length p.users + length p.guids); size = length p.blobs };
}

pub streams_found : (p : Parts) → Small p → streams_of (image_bytes p) ≡ Ok (streams_in p)
streams_found p small =
    let m : ℕ = length (metadata p) in
    let img : List ℕ = image_bytes p in
    let r : Range = record { offset = 584; size = m } in
    let b = bodies p in
    let h = head p in
    let t : ℕ = length p.tables in
    let x : ℕ = length p.texts in
    let u : ℕ = length p.users in
    let g : ℕ = length p.guids in
    let l : ℕ = length p.blobs in
    let whole : m ≡ 116 + (t + x + u + g + l) = length-metadata p in
    let in_head : Stands img 584 (metadata_head p) = stands_in img (metadata p) (metadata_head p) 584 0 (laid p).metadata b.head in
    let at : (cells : List ℕ) (n : ℕ) → Stands (metadata_head p) n cells → Stands img (584 + n) cells = λ cells n s. stands_in img (metadata_head p) cells 584 n in_head s in
    let root = root_found p small in
    let signed : begins img 584 (0x42 ∷ 0x53 ∷ 0x4A ∷ 0x42 ∷ []) ≡ true = begins_at img (0x42 ∷ 0x53 ∷ 0x4A ∷ 0x42 ∷ []) 584 (at (0x42 ∷ 0x53 ∷ 0x4A ∷ 0x42 ∷ []) 0 h.root) in
    let long : field img NoRoot 596 4 ≡ Ok 20 = field_at img NoRoot 596 4 20 (lit< tt) (at (le 4 20) 12 h.long) in
    let version : begins img 600 (codes "WindowsRuntime 1.") ≡ true = begins_at img (codes "WindowsRuntime 1.") 600 (at (codes "WindowsRuntime 1.") 16 h.version) in
    let count : field img NoRoot 622 2 ≡ Ok 5 = field_at img NoRoot 622 2 5 (lit< tt) (at (le 2 5) 38 h.count) in
    let number : (n k : ℕ) → k < 256 ^ 4 → Stands (metadata_head p) n (le 4 k) → field img BadStream (584 + n) 4 ≡ Ok k = λ n k lt s. field_at img BadStream (584 + n) 4 k lt (at (le 4 k) n s) in
    let s5 : List Stream = (record { name = codes "#Blob"; range = (streams_in p).blobs }) ∷ [] in
    let s4 : List Stream = (record { name = codes "#GUID"; range = (streams_in p).guids }) ∷ s5 in
    let s3 : List Stream = (record { name = codes "#US"; range = (streams_in p).users }) ∷ s4 in
    let s2 : List Stream = (record { name = codes "#Strings"; range = (streams_in p).texts }) ∷ s3 in
    let s1 : List Stream = (record { name = codes "#~"; range = (streams_in p).tables }) ∷ s2 in
    let h5 : headers img r 1 684 ≡ Ok s5 = header_step img r 0 684 (116 + t + x + u + g) l (codes "#Blob") [] (number 100 (116 + t + x + u + g) (omega arith) h.at5) (number 104 l (omega arith) h.len5) (omega arith)
    (name_at img (codes "#Blob" ++ 0 ∷ []) (codes "#Blob") 692 (at (codes "#Blob" ++ 0 ∷ []) 108 h.name5) (λ back. refl)) refl in
    let h4 : headers img r 2 668 ≡ Ok s4 = header_step img r 1 668 (116 + t + x + u) g (codes "#GUID") s5 (number 84 (116 + t + x + u) (omega arith) h.at4) (number 88 g (omega arith) h.len4) (omega arith)
    (name_at img (codes "#GUID" ++ 0 ∷ []) (codes "#GUID") 676 (at (codes "#GUID" ++ 0 ∷ []) 92 h.name4) (λ back. refl)) h5 in
    let h3 : headers img r 3 656 ≡ Ok s3 = header_step img r 2 656 (116 + t + x) u (codes "#US") s4 (number 72 (116 + t + x) (omega arith) h.at3) (number 76 u (omega arith) h.len3) (omega arith)
    (name_at img (codes "#US" ++ 0 ∷ []) (codes "#US") 664 (at (codes "#US" ++ 0 ∷ []) 80 h.name3) (λ back. refl)) h4 in
    let h2 : headers img r 4 636 ≡ Ok s2 = header_step img r 3 636 (116 + t) x (codes "#Strings") s3 (number 52 (116 + t) (omega arith) h.at2) (number 56 x (omega arith) h.len2) (omega arith)
    (name_at img (codes "#Strings" ++ 0 ∷ []) (codes "#Strings") 644 (at (codes "#Strings" ++ 0 ∷ []) 60 h.name2) (λ back. refl)) h3 in
    let h1 : headers img r 5 624 ≡ Ok s1 = header_step img r 4 624 116 t (codes "#~") s2 (number 40 116 (lit< tt) h.at1) (number 44 t (omega arith) h.len1) (omega arith)
    (name_at img (codes "#~" ++ 0 ∷ []) (codes "#~") 632 (at (codes "#~" ++ 0 ∷ []) 48 h.name1) (λ back. refl)) h2 in
    rw (root, signed, long, version, count, h1) refl

part_is : (p : Parts) (part : List ℕ) (offset : ℕ) → Stands (metadata p) offset part → part_at (image_bytes p) (584 + offset) (length part) ≡ part
part_is p part offset s = read_at (image_bytes p) part (584 + offset) (length part) refl (stands_in (image_bytes p) (metadata p) part 584 offset (laid p).metadata s)

-- what is taken out of an image that is written
pub taken_apart : (p : Parts) → Small p → unwrapped (image_bytes p) ≡ Ok (slices_of p)
taken_apart p small =
    let b = bodies p in
    let same : slices_in (image_bytes p) (streams_in p) ≡ slices_of p = λ i. record {
      tables = record { offset = 584 + 116; bytes = part_is p p.tables 116 b.tables i };
      texts = record { offset = 584 + (116 + length p.tables); bytes = part_is p p.texts (116 + length p.tables) b.texts i };
      users = record { offset = 584 + (116 + length p.tables + length p.texts); bytes = part_is p p.users (116 + length p.tables + length p.texts) b.users i };
      guids = record { offset = 584 + (116 + length p.tables + length p.texts + length p.users); bytes = part_is p p.guids (116 + length p.tables + length p.texts + length p.users) b.guids i };
      blobs = record { offset = 584 + (116 + length p.tables + length p.texts + length p.users + length p.guids); bytes = part_is p p.blobs (116 + length p.tables + length p.texts + length p.users + length p.guids) b.blobs i };
    } in
    ap (λ (r : Result Streams ImageFault). r >>= λ streams. Ok (slices_in (image_bytes p) streams)) (streams_found p small) ∙ ap (λ (s : Slices). Ok s) same

-- the bytes of three of them
pub tables_in : (p : Parts) → part_at (image_bytes p) (584 + 116) (length p.tables) ≡ p.tables
tables_in p = part_is p p.tables 116 (bodies p).tables

pub texts_in : (p : Parts) → part_at (image_bytes p) (584 + (116 + length p.tables)) (length p.texts) ≡ p.texts
texts_in p = part_is p p.texts (116 + length p.tables) (bodies p).texts

pub blobs_in : (p : Parts) → part_at (image_bytes p) (584 + (116 + length p.tables + length p.texts + length p.users + length p.guids)) (length p.blobs) ≡ p.blobs
blobs_in p = part_is p p.blobs (116 + length p.tables + length p.texts + length p.users + length p.guids) (bodies p).blobs
