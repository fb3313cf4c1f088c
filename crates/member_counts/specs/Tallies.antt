-- How often each text stands in a map, and what counts say.
use Rattle.std.specs.Prelude.{ℕ, ◌<◌, ◌≤◌, Bool, true, false, List, String, Option, Some, None, string_bytes}
use Rattle.std.specs.BTreeMap.{BTreeMap, get_by_text}
use Rattle.std.specs.Option.{unwrap_or}
use Rattle.std.specs.Str.{bytes_eq}

-- the count of a text, which is 0 where the map lacks it
abbrev pub count_at : {Y : Type 0} → BTreeMap (String Y) ℕ → List ℕ → ℕ
count_at counts text = unwrap_or (get_by_text counts text) 0

-- there is a text, and it is this one
abbrev pub has_text : {Y : Type 0} → Option (String Y) → List ℕ → Bool
has_text None text = false
has_text (Some own) text = bytes_eq (string_bytes own) text

-- a name is not that of methods alone: for a method, one of the name is none; for another member, two have it
abbrev pub Mixed : Bool → ℕ → ℕ → Type 0
Mixed true others all_ = 0 < others
Mixed false others all_ = 2 ≤ all_
