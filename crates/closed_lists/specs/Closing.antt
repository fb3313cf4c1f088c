-- Lists with all that they lead to, as they are found.
use Rattle.std.specs.Prelude.{◌≡◌, ◌≤◌, ◌<◌, ◌+◌, ◌⊎◌, ℕ, Bool, true, not, List, ◌++◌, Some, Contains, length, count_by, slice_get}
use Rattle.std.specs.List.{flat_map}
use Rattle.std.specs.HashSet.{contains_text}
use Rattle.wr_base.specs.Uses.{text_of}
use Rattle.wr_base.specs.declared.type_use.TypeUse.{TypeUse}
use Rattle.wr_base.specs.declared.declaration.Declaration.{Declaration}
use Rattle.wr_rules.specs.Closures.{Closed, lists, required_at}
use Rattle.wr_rules.specs.ListRules.{listed_in}
use Rattle.closed_lists.specs.declared.closing.Gathered.{Gathered}

-- a text is known
abbrev pub has : Gathered → List ℕ → Bool
has g text = contains_text g.texts text

-- the texts are those of the uses
abbrev pub Agrees : Gathered → Type 0
Agrees g = (text : List ℕ) → has g text ≡ lists g.uses.items text

-- how many of these uses aren't known
abbrev pub unmet : Gathered → List TypeUse → ℕ
unmet g uses = count_by (λ u. not (has g (text_of u))) uses

-- these uses were met: those that are new stand behind the others
pub record Meets (more : List TypeUse) (old : Gathered) (new : Gathered) : Type 0 where
  pub agrees : Agrees old → Agrees new
  pub extra : List TypeUse
  pub behind : new.uses.items ≡ old.uses.items ++ extra
  pub only : (u : TypeUse) → Contains extra u → Contains more u
  pub all_ : (text : List ℕ) → lists more text ≡ true → has new text ≡ true
  pub kept : (text : List ℕ) → has old text ≡ true → has new text ≡ true
  pub less : (uses : List TypeUse) → ((u : TypeUse) → Contains more u → Contains uses u) → unmet new uses + length new.uses.items ≤ unmet old uses + length old.uses.items
  pub sound : (text : List ℕ) → has new text ≡ true → (has old text ≡ true) ⊎ (lists more text ≡ true)

-- all uses that can be met from a list
abbrev pub uses_from : List Declaration → List TypeUse → List TypeUse
uses_from types list = list ++ flat_map listed_in types

-- what is met so far, where the first ones were followed
pub record Reaches (types : List Declaration) (list : List TypeUse) (g : Gathered) (next : ℕ) : Type 0 where
  pub agrees : Agrees g
  pub start : (text : List ℕ) → lists list text ≡ true → has g text ≡ true
  pub sound : (text : List ℕ) → has g text ≡ true → Closed types list text
  pub written : (u : TypeUse) → Contains g.uses.items u → Contains (uses_from types list) u
  pub followed : (k : ℕ) (u : TypeUse) (text : List ℕ) → k < next → slice_get g.uses.items k ≡ Some u → lists (required_at types (text_of u)) text ≡ true → has g text ≡ true
  pub bound : next ≤ length g.uses.items

-- what the use at this place requires was met
abbrev pub Follows : List Declaration → ℕ → Gathered → Gathered → Type 0
Follows types at old new = (u : TypeUse) × (slice_get old.uses.items at ≡ Some u) × Meets (required_at types (text_of u)) old new
