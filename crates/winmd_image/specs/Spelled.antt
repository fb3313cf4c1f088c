-- The one way in which an image is written around its streams (ECMA-335 II.24.2, II.25).
use Rattle.std.specs.Prelude.{ℕ, ◌+◌, ◌-◌, List, [], ◌∷◌, ◌++◌, length, codes}
use Rattle.md_bytes.specs.Bytes.{le}
use Rattle.md_bytes.specs.Padding.{zeros, up, words}
use Rattle.winmd_image.specs.Parts.{Parts}

-- the MS-DOS header (II.25.2.1), which leads to the byte 0x80
unfoldable pub dos_header : List ℕ
dos_header = codes "MZ" ++ zeros 0x3A ++ le 4 0x80 ++ zeros 0x40

-- the PE signature and the PE file header (II.25.2.2), with one section
unfoldable pub file_header : List ℕ
file_header = codes "PE" ++ 0 ∷ 0 ∷ words 2 (0x14C ∷ 1 ∷ []) ++ words 4 (0 ∷ 0 ∷ 0 ∷ []) ++ words 2 (0xE0 ∷ 0x2102 ∷ [])

-- the standard fields of the PE optional header, for a section of so many bytes in the file (II.25.2.3.1)
unfoldable pub standard_fields : ℕ → List ℕ
standard_fields raw_size = le 2 0x10B ++ (11 ∷ 0 ∷ []) ++ words 4 (raw_size ∷ 0 ∷ 0 ∷ 0 ∷ 0x2000 ∷ 0 ∷ [])

-- its fields for Windows, for an image of so many bytes in memory (II.25.2.3.2)
unfoldable pub windows_fields : ℕ → List ℕ
windows_fields image_size =
    words 4 (0x400000 ∷ 0x2000 ∷ 0x200 ∷ []) ++ words 2 (6 ∷ 2 ∷ 0 ∷ 0 ∷ 6 ∷ 2 ∷ []) ++ words 4 (0 ∷ image_size ∷ 0x200 ∷ 0 ∷ [])
    ++ words 2 (3 ∷ 0x0540 ∷ []) ++ words 4 (0x100000 ∷ 0x1000 ∷ 0x100000 ∷ 0x1000 ∷ 0 ∷ 16 ∷ [])

-- its directories, of which number 14 is the CLI header's (II.25.2.3.3)
unfoldable pub directories : List ℕ
directories = zeros 112 ++ words 4 (0x2000 ∷ 72 ∷ []) ++ zeros 8

-- the PE optional header for a section of so many bytes (II.25.2.3)
abbrev pub optional_header : ℕ → List ℕ
optional_header size = standard_fields (up size 0x200) ++ windows_fields (0x2000 + up size 0x2000) ++ directories

-- the header of the section `.text`, of so many bytes (II.25.3)
unfoldable pub section_header : ℕ → List ℕ
section_header size = codes ".text" ++ zeros 3 ++ words 4 (size ∷ 0x2000 ∷ up size 0x200 ∷ 0x200 ∷ []) ++ zeros 12 ++ le 4 0x60000020

-- the CLI header for so many bytes of metadata (II.25.3.3)
unfoldable pub cli_header : ℕ → List ℕ
cli_header metadata = le 4 72 ++ words 2 (2 ∷ 5 ∷ []) ++ words 4 (0x2048 ∷ metadata ∷ 1 ∷ []) ++ zeros 52

-- the root of the metadata, with the number of streams (II.24.2.1)
unfoldable pub root_head : List ℕ
root_head = le 4 0x424A5342 ++ words 2 (1 ∷ 1 ∷ []) ++ words 4 (0 ∷ 20 ∷ []) ++ codes "WindowsRuntime 1.4" ++ 0 ∷ 0 ∷ words 2 (0 ∷ 5 ∷ [])

-- where a stream begins, counted from the root, how many bytes it has, and its name with the zeros behind it (II.24.2.2)
abbrev pub stream_head : ℕ → ℕ → List ℕ → List ℕ
stream_head offset size name = le 4 offset ++ le 4 size ++ name

-- the headers of the five streams, for streams of so many bytes; they take 12, 20, 12, 16 and 16 bytes behind the 40 of the root
unfoldable pub stream_heads : ℕ → ℕ → ℕ → ℕ → ℕ → List ℕ
stream_heads tables texts users guids blobs =
    stream_head 116 tables (codes "#~" ++ 0 ∷ 0 ∷ [])
    ++ stream_head (116 + tables) texts (codes "#Strings" ++ 0 ∷ 0 ∷ 0 ∷ 0 ∷ [])
    ++ stream_head (116 + tables + texts) users (codes "#US" ++ 0 ∷ [])
    ++ stream_head (116 + tables + texts + users) guids (codes "#GUID" ++ 0 ∷ 0 ∷ 0 ∷ [])
    ++ stream_head (116 + tables + texts + users + guids) blobs (codes "#Blob" ++ 0 ∷ 0 ∷ 0 ∷ [])

abbrev pub metadata_head : Parts → List ℕ
metadata_head p = root_head ++ stream_heads (length p.tables) (length p.texts) (length p.users) (length p.guids) (length p.blobs)

unfoldable pub metadata : Parts → List ℕ
metadata p = metadata_head p ++ p.tables ++ p.texts ++ p.users ++ p.guids ++ p.blobs

-- the headers, the metadata, and zeros to the end of the section
abbrev pub wrapped : List ℕ → List ℕ
wrapped bytes =
    dos_header ++ file_header ++ optional_header (72 + length bytes) ++ section_header (72 + length bytes) ++ zeros 0x60
    ++ cli_header (length bytes) ++ bytes ++ zeros (up (72 + length bytes) 0x200 - (72 + length bytes))

abbrev pub image_bytes : Parts → List ℕ
image_bytes p = wrapped (metadata p)
