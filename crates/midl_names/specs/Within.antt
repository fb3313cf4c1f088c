-- How long the full names of declared types are.
use Rattle.std.specs.Prelude.{◌≡◌, ◌≤◌, ℕ, List, Option, Some, length}
use Rattle.wr_base.specs.Parts.{behind_last}
use Rattle.midl_names.specs.declared.sort.Sort.{Sort}

-- a declared full name has no more bytes than are told of the name behind its last dot
abbrev pub IsWithin : (List ℕ → Option Sort) → (List ℕ → ℕ) → Type 0
IsWithin known longest = (name : List ℕ) (sort : Sort) → known name ≡ Some sort → length name ≤ longest (behind_last 46 name)
