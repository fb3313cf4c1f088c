-- Where a name stands in a list for the first time.
use Rattle.std.specs.Prelude.{◌≡◌, ℕ, suc, Bool, List, [], ◌∷◌, Option, Some, None, map, if◌then◌else◌}
use Rattle.std.specs.Option.{option_map}
use Rattle.std.specs.Str.{bytes_eq}
use Rattle.std.specs.HashMap.{HashMap, get_by_text}
use Rattle.std.specs.Prelude.{String}
use Rattle.std.specs.declared.alloc.Global.{Global}
use Rattle.wr_base.specs.Declarations.{name_of}
use Rattle.closed_lists.specs.declared.site.PlacedDeclaration.{PlacedDeclaration}

-- the full names of declarations
abbrev pub names_in : List PlacedDeclaration → List (List ℕ)
names_in list = map (λ p. name_of p.declaration) list

-- the first place of a name
abbrev pub position : List (List ℕ) → List ℕ → Option ℕ
position [] name = None
position (n ∷ ns) name = if bytes_eq n name then Some 0 else option_map suc (position ns name)

-- this place, where the name is this one
abbrev pub place_if : Bool → ℕ → Option ℕ
place_if same place = if same then Some place else None

-- the index tells the first place of each name
abbrev pub Indexes : {S : Type 0} → HashMap (String Global) ℕ S → List (List ℕ) → Type 0
Indexes index names = (name : List ℕ) → get_by_text index name ≡ position names name
