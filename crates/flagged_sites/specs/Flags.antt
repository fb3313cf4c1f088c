-- Declarations that flags tell.
use Rattle.std.specs.Prelude.{ℕ, Bool, false, List, length, slice_index_or}
use Rattle.ranked.specs.Entries.{Entry}
use Rattle.ranked.specs.First.{Below, At}
use Rattle.wr_base.specs.declared.code.Code.{Code}
use Rattle.wr_rules.specs.Sites.{Site, spot_of, If}

-- past the end none is told
abbrev pub flag_of : List Bool → ℕ → Bool
flag_of flags k = slice_index_or flags k false

-- broken at this declaration, where its flag tells it
abbrev pub FlaggedAt : List Site → List Bool → Code → ℕ → Entry → Type 0
FlaggedAt sites flags code k = At sites (λ s. If (flag_of flags k) code (spot_of s)) k

-- broken at each declaration that the flags tell
abbrev pub Flagged : List Site → List Bool → Code → Entry → Type 0
Flagged sites flags code = Below (length sites) (FlaggedAt sites flags code)
