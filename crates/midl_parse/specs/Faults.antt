-- Where a fault of parsing stands, and which it is.
use Rattle.std.specs.Prelude.{ℕ, zero, suc, List, ◌≡◌, ◌↔◌}
use Rattle.grammar.specs.Faults.{Opens, FaultAt}
use Rattle.midl_tree.specs.declared.terminal.Terminal.{Terminal}
use Rattle.midl_words.specs.declared.stop.Code.{Code}
use Rattle.midl_words.specs.declared.stop.Code.TheVariants.{FloatType, UnknownAttribute, TooDeep}
use Rattle.midl_words.specs.declared.stop.Stop.{Stop}
use Rattle.midl_parse.specs.Files.{IsSourceWith, IsSource}
use Rattle.midl_parse.specs.Types.{IsBase, IsBaseOrFloat}
use Rattle.midl_parse.specs.Attributes.{IsAttribute, IsAttributeOrName}
use Rattle.midl_words.specs.declared.stop.Stop.TheVariants as stops

-- a limit, raised k times
abbrev pub raised : ℕ → ℕ → ℕ
raised zero n = n
raised (suc k) n = suc (raised k n)

-- depth alone forbids the token: a file goes on with it once the limits are raised
abbrev pub IsDeep : List Terminal → ℕ → Type 0
IsDeep tokens left = (k : ℕ) × Opens (IsSourceWith (raised k 15) (raised k 15) IsAttribute IsBase) tokens left

-- the token is a float where a type may begin: a file goes on with it once floats are base words
abbrev pub IsFloat : List Terminal → ℕ → Type 0
IsFloat tokens left = Opens (IsSourceWith 15 15 IsAttribute IsBaseOrFloat) tokens left

-- the token is another name where an attribute may begin: a file goes on with it once every name is an attribute
abbrev pub IsUnknown : List Terminal → ℕ → Type 0
IsUnknown tokens left = Opens (IsSourceWith 15 15 IsAttributeOrName IsBase) tokens left

-- The fault stands before the last tokens, so many, where no file goes on; and its code is one of the three exactly where it says so.
pub record IsFault (tokens : List Terminal) (code : Code) (left : ℕ) : Type 0 where
  pub stands : FaultAt IsSource tokens left
  pub deep : (code ≡ TooDeep) ↔ IsDeep tokens left
  pub float : (code ≡ FloatType) ↔ IsFloat tokens left
  pub unknown : (code ≡ UnknownAttribute) ↔ IsUnknown tokens left

abbrev pub StandsAt : List Terminal → Stop → Type 0
StandsAt tokens stops.Memory = Unit {0}
StandsAt tokens (stops.Fault code left) = IsFault tokens code left
