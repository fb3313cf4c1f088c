-- How often full names stand among declarations.
use Rattle.std.specs.Prelude.{◌≡◌, ℕ, Bool, true, false, List, String}
use Rattle.std.specs.HashMap.{HashMap, get_by_text}
use Rattle.std.specs.Option.{unwrap_or}
use Rattle.std.specs.Str.{bytes_eq}
use Rattle.wr_base.specs.Declarations.{name_of}
use Rattle.winmd_sets.specs.Types.{sum_of}
use Rattle.winmd_set.specs.declared.stated.Stated.{Stated}

-- the count of a name, which is 0 where the map lacks it
abbrev pub count_at : {Y S : Type 0} → HashMap (String Y) ℕ S → List ℕ → ℕ
count_at counts text = unwrap_or (get_by_text counts text) 0

abbrev pub one : Bool → ℕ
one true = 1
one false = 0

-- how often it is the name of one of these
abbrev pub times : List ℕ → List Stated → ℕ
times text list = sum_of (λ s. one (bytes_eq text (name_of s.declaration))) list

-- The map counts these names.
abbrev pub Counts : {Y S : Type 0} → HashMap (String Y) ℕ S → List Stated → Type 0
Counts counts list = (text : List ℕ) → count_at counts text ≡ times text list
