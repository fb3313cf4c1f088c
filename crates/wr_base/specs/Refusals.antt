-- Why a list of declarations is no set of types.
use Rattle.std.specs.Prelude.{ℕ, List, ⊤}
use Rattle.wr_base.specs.declared.declaration.Declaration.{Declaration}
use Rattle.ranked.specs.declared.stop.Stop.{Stop}
use Rattle.ranked.specs.declared.stop.Stop.TheVariants.{Refused, Memory}
use Rattle.wr_base.specs.Declarations.{IsLeastTwice}

-- the least name that stands twice; of want of memory nothing is said
abbrev pub IsRefusalOf : List Declaration → Stop (List ℕ) → Type 0
IsRefusalOf list (Refused name) = IsLeastTwice list name
IsRefusalOf list Memory = ⊤
