-- The streams of an image that is written (ECMA-335 II.24.2.2).
use Rattle.std.specs.Prelude.{ℕ, ◌+◌, ◌^◌, ◌<◌, List, length}
use Rattle.md_bytes.specs.Padding.{zeros, padded}

-- the bytes of `#~`, `#Strings`, `#US`, `#GUID` and `#Blob`
pub record Parts : Type 0 where
  pub tables : List ℕ
  pub texts : List ℕ
  pub users : List ℕ
  pub guids : List ℕ
  pub blobs : List ℕ

abbrev pub five : List ℕ → List ℕ → List ℕ → List ℕ → List ℕ → Parts
five tables texts users guids blobs = record { tables = tables; texts = texts; users = users; guids = guids; blobs = blobs }

-- an image that states types has four zeros in `#US`, and one Guid of zeros
abbrev pub parts_of : List ℕ → List ℕ → List ℕ → Parts
parts_of tables texts blobs = record { tables = tables; texts = texts; users = zeros 4; guids = zeros 16; blobs = blobs }

-- each stream with zeros behind it, up to a multiple of four
abbrev pub padded_parts : Parts → Parts
padded_parts p = record { tables = padded p.tables; texts = padded p.texts; users = padded p.users; guids = padded p.guids; blobs = padded p.blobs }

-- the streams of an image that states types, with zeros behind them
abbrev pub padded_types : List ℕ → List ℕ → List ℕ → Parts
padded_types tables texts blobs = parts_of (padded tables) (padded texts) (padded blobs)

-- how many bytes they have
abbrev pub size_of : Parts → ℕ
size_of p = length p.tables + length p.texts + length p.users + length p.guids + length p.blobs

-- an image has room for them
abbrev pub Small : Parts → Type 0
Small p = size_of p < 2 ^ 31
