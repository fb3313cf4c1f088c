-- How often each name stands in a map.
use Rattle.std.specs.Prelude.{ℕ, List, String}
use Rattle.std.specs.HashMap.{HashMap, get_by_text}
use Rattle.std.specs.Option.{unwrap_or}

-- the count of a name, which is 0 where the map lacks it
abbrev pub count_at : {Y S : Type 0} → HashMap (String Y) ℕ S → List ℕ → ℕ
count_at counts name = unwrap_or (get_by_text counts name) 0
