-- Texts and keys by their hashes.
use Rattle.std.specs.Prelude.{◌≡◌, ℕ, true, bytes_eq, Bool, List, Some, String, Vec}
use Rattle.std.specs.BTreeSet as sorted
use Rattle.std.specs.HashMap.{HashMap, get_by_text}
use Rattle.std.specs.HashSet.{HashSet, contains_text}
use Rattle.std.specs.declared.alloc.Global.{Global}
use Rattle.std.specs.declared.hash.BuildHasherDefault.{BuildHasherDefault}
use Rattle.std.specs.declared.hash.FoldHasher.{FoldHasher}
use Rattle.sig_blobs.specs.Templates.{template}

abbrev pub Hashed : Type 0 → Type 0
Hashed K = HashSet K (BuildHasherDefault FoldHasher)

-- each text of the second set is in the first
abbrev pub AllThere : sorted.BTreeSet (String Global) → Hashed (String Global) → Type 0
AllThere set known = (name : List ℕ) → contains_text known name ≡ true → sorted.contains_text set name ≡ true

-- the template of each name and its number of arguments is in the set
abbrev pub AllFormed : sorted.BTreeSet (String Global) → HashMap (String Global) ℕ (BuildHasherDefault FoldHasher) → Type 0
AllFormed set counts = (name : List ℕ) (number : ℕ) → get_by_text counts name ≡ Some number → sorted.contains_text set (template name number) ≡ true

-- keys of the same bytes are one key
abbrev pub key_eq : Vec ℕ Global → Vec ℕ Global → Bool
key_eq a b = bytes_eq a.items b.items
