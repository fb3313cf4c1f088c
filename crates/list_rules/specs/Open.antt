-- What flags say of the lists of declarations.
use Rattle.std.specs.Prelude.{◌≡◌, ◌<◌, ◌↔◌, ◌||◌, ◌∷◌, ◌++◌, ℕ, Bool, false, IsTrue, List, Some, map, length, slice_get}
use Rattle.std.specs.List.{list_any}
use Rattle.std.specs.Str.{bytes_eq}
use Rattle.chains.specs.Graphs.{In, steps_of}
use Rattle.stamps.specs.Within.{LeadsOut}
use Rattle.wr_base.specs.Uses.{text_of}
use Rattle.wr_base.specs.declared.type_use.TypeUse.{TypeUse}
use Rattle.wr_base.specs.declared.declaration.Declaration.{Declaration}
use Rattle.wr_base.specs.declared.declaration.Declaration.TheVariants.{Enum, Struct, Delegate, Interface, Class}
use Rattle.wr_rules.specs.Closures.{lists}
use Rattle.wr_rules.specs.ListRules.{clash_of, stands_twice}
use Rattle.flagged_sites.specs.Flags.{flag_of}

-- each of the first so many flags says whether a fact holds of its number
pub record Tells (fact : ℕ → Type 0) (i : ℕ) (on : List Bool) : Type 0 where
  pub size : length on ≡ i
  pub told : (k : ℕ) → k < i → IsTrue (flag_of on k) ↔ fact k

-- whether a set leads to what it lacks
abbrev pub TellOpen : List (List ℕ) → List (List ℕ) → ℕ → List Bool → Type 0
TellOpen graph sets = Tells (λ k. LeadsOut graph (steps_of sets k))

-- whether a number leads to itself
abbrev pub TellCyclic : List (List ℕ) → ℕ → List Bool → Type 0
TellCyclic graph = Tells (λ k. In k (steps_of graph k))

-- the flag of each declaration is what a test says of it
abbrev pub FlagsAre : (Declaration → Bool) → List Declaration → List Bool → Type 0
FlagsAre p types on = (k : ℕ) (d : Declaration) → slice_get types k ≡ Some d → flag_of on k ≡ p d

-- an interface lists itself
abbrev pub lists_itself : Declaration → Bool
lists_itself (Interface name version id owner requires_ members) = lists requires_ name
lists_itself (Enum name version flags cases) = false
lists_itself (Struct name version fields) = false
lists_itself (Delegate name version id invoke) = false
lists_itself (Class name version fixed default has direct factories statics) = false

-- two interfaces that a declaration lists share a name, or one stands in two of a class's lists
abbrev pub clash_listed : List Declaration → Declaration → Bool
clash_listed types (Interface name version id owner requires_ members) = clash_of types (name ∷ map text_of requires_)
clash_listed types (Class name version fixed default has direct factories statics) = clash_of types (map text_of has ++ statics) || stands_twice types has factories statics
clash_listed types (Enum name version flags cases) = false
clash_listed types (Struct name version fields) = false
clash_listed types (Delegate name version id invoke) = false

-- exactly these texts are marked
abbrev pub Marked : List (List ℕ) → (List ℕ → Bool) → Type 0
Marked names has = (text : List ℕ) → has text ≡ list_any (λ name. bytes_eq name text) names

-- an interface stands in two of a class's lists
abbrev pub twice_at : List Declaration → Declaration → Bool
twice_at types (Class name version fixed default has direct factories statics) = stands_twice types has factories statics
twice_at types (Enum name version flags cases) = false
twice_at types (Struct name version fields) = false
twice_at types (Delegate name version id invoke) = false
twice_at types (Interface name version id owner requires_ members) = false

-- the same of the first so many
pub record FlagsTo (p : Declaration → Bool) (types : List Declaration) (i : ℕ) (on : List Bool) : Type 0 where
  pub size : length on ≡ i
  pub flags : (k : ℕ) (d : Declaration) → k < i → slice_get types k ≡ Some d → flag_of on k ≡ p d

-- whether the text of a use is marked
abbrev pub is_marked : (List ℕ → Bool) → TypeUse → Bool
is_marked has u = has (text_of u)
