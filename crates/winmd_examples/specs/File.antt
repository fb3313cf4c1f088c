-- The pieces of an image, as ECMA-335 II.24 and II.25 lay them out; examples are put together from them by hand.
use Rattle.std.specs.Prelude.{ℕ, List, [], ◌∷◌, ◌++◌, codes}
use Rattle.md_bytes.specs.Bytes.{le}
use Rattle.md_bytes.specs.Padding.{zeros, words}

-- ---- the headers of the file (II.25.2)

-- the MS-DOS header, which says that the PE signature stands at 0x80
abbrev pub dos : List ℕ
dos = codes "MZ" ++ zeros 58 ++ words 4 (0x80 ∷ []) ++ zeros 64

-- the PE signature and the file header: how many sections there are, and how many bytes the optional header has
abbrev pub file_header : ℕ → ℕ → List ℕ
file_header sections size = 80 ∷ 69 ∷ 0 ∷ 0 ∷ words 2 (0x14C ∷ sections ∷ []) ++ zeros 12 ++ words 2 (size ∷ 0x2102 ∷ [])

-- sixteen directories, of which number 14 is the range of the CLI header
abbrev pub directories : List ℕ
directories = zeros 112 ++ words 4 (0x2000 ∷ 72 ∷ []) ++ zeros 8

-- the optional header with addresses of four bytes: 224 bytes
abbrev pub optional_32 : List ℕ
optional_32 =
    words 2 (0x10B ∷ 11 ∷ []) ++ words 4 (0x400 ∷ 0 ∷ 0 ∷ 0 ∷ 0x2000 ∷ 0 ∷ 0x400000 ∷ 0x2000 ∷ 0x200 ∷ [])
    ++ words 2 (6 ∷ 2 ∷ 0 ∷ 0 ∷ 6 ∷ 2 ∷ 0 ∷ 0 ∷ []) ++ words 4 (0x4000 ∷ 0x200 ∷ 0 ∷ []) ++ words 2 (3 ∷ 0x540 ∷ [])
    ++ words 4 (0x100000 ∷ 0x1000 ∷ 0x100000 ∷ 0x1000 ∷ 0 ∷ 16 ∷ []) ++ directories

-- with addresses of eight: the base of data is missing, and the base of the image, and the sizes of stack and heap, are longer; 240 bytes
abbrev pub optional_64 : List ℕ
optional_64 =
    words 2 (0x20B ∷ 11 ∷ []) ++ words 4 (0x400 ∷ 0 ∷ 0 ∷ 0 ∷ 0x2000 ∷ []) ++ le 8 0x400000 ++ words 4 (0x2000 ∷ 0x200 ∷ [])
    ++ words 2 (6 ∷ 2 ∷ 0 ∷ 0 ∷ 6 ∷ 2 ∷ 0 ∷ 0 ∷ []) ++ words 4 (0x4000 ∷ 0x200 ∷ 0 ∷ []) ++ words 2 (3 ∷ 0x540 ∷ [])
    ++ words 8 (0x100000 ∷ 0x1000 ∷ 0x100000 ∷ 0x1000 ∷ []) ++ words 4 (0 ∷ 16 ∷ []) ++ directories

-- a section header: how many bytes the section has in memory, at which address, how many in the file, and where (II.25.3)
abbrev pub section : ℕ → ℕ → ℕ → ℕ → List ℕ
section size address raw_size at = codes ".text" ++ zeros 3 ++ words 4 (size ∷ address ∷ raw_size ∷ at ∷ 0 ∷ 0 ∷ 0 ∷ 0x60000020 ∷ [])

-- the CLI header: the address and the size of the metadata (II.25.3.3)
abbrev pub cli : ℕ → ℕ → List ℕ
cli address size = words 4 (72 ∷ []) ++ words 2 (2 ∷ 5 ∷ []) ++ words 4 (address ∷ size ∷ 1 ∷ []) ++ zeros 52

-- ---- the metadata (II.24.2)

-- the root, with so many stream headers behind it: 40 bytes
abbrev pub root : ℕ → List ℕ
root count = codes "BSJB" ++ words 2 (1 ∷ 1 ∷ []) ++ words 4 (0 ∷ 20 ∷ []) ++ codes "WindowsRuntime 1.4" ++ words 2 (0 ∷ 0 ∷ count ∷ [])

-- the headers of the streams: where each stands in the metadata, and how many bytes it has; 12, 20, 12, 16 and 16 bytes
abbrev pub tables_header : ℕ → ℕ → List ℕ
tables_header at size = words 4 (at ∷ size ∷ []) ++ codes "#~" ++ zeros 2

abbrev pub texts_header : ℕ → ℕ → List ℕ
texts_header at size = words 4 (at ∷ size ∷ []) ++ codes "#Strings" ++ zeros 4

abbrev pub users_header : ℕ → ℕ → List ℕ
users_header at size = words 4 (at ∷ size ∷ []) ++ codes "#US" ++ zeros 1

abbrev pub guids_header : ℕ → ℕ → List ℕ
guids_header at size = words 4 (at ∷ size ∷ []) ++ codes "#GUID" ++ zeros 3

abbrev pub blobs_header : ℕ → ℕ → List ℕ
blobs_header at size = words 4 (at ∷ size ∷ []) ++ codes "#Blob" ++ zeros 3

-- texts, each with a zero behind it (II.24.2.3)
abbrev pub ended : List (List ℕ) → List ℕ
ended [] = []
ended (text ∷ texts) = text ++ 0 ∷ ended texts
