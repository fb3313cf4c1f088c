-- What is built part by part: factory methods, and the places of constructors.
use Rattle.std.specs.Prelude.{ℕ, List, [], ◌∷◌, ◌++◌, Option, Some, None, length, if◌then◌else◌}
use Rattle.ranked.specs.declared.place.Place.{Place}
use Rattle.wr_base.specs.declared.declaration.Signature.{Signature}
use Rattle.wr_base.specs.declared.declaration.Member.{Member}
use Rattle.made_interfaces.specs.Made.{factory_method, takes_some}

-- these methods, and behind them that of a constructor with parameters
abbrev pub methods_with : List ℕ → List Member → Signature → List Member
methods_with class methods s = if takes_some s then methods ++ factory_method class (length methods) s ∷ [] else methods

-- these places, and behind them that of a constructor with parameters
abbrev pub places_with : List Place → Signature → Option Place → List Place
places_with places s None = places
places_with places s (Some p) = if takes_some s then places ++ p ∷ [] else places
