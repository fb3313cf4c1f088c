-- What a group of the search stands for.
use Rattle.std.specs.Prelude.{◌≡◌, ◌⊎◌, ◌++◌, ℕ, Bool, true, List, IsTrue, map, reverse}
use Rattle.std.specs.Global.{Vec}
use Rattle.chains.specs.declared.group.Group.{Group}

-- a group as lists
pub record GroupView : Type 0 where
  pub nodes : List ℕ
  pub pending : List ℕ
  pub first : ℕ
  pub cyclic : Bool

-- what a group stands for
abbrev pub view_of : Group → GroupView
view_of g = record { nodes = g.nodes.items; pending = g.pending.items; first = g.first; cyclic = g.cyclic }

-- the groups from the last one down
abbrev pub views_of : List Group → List GroupView
views_of groups = reverse (map view_of groups)

-- two lists, one behind the other
abbrev pub IsEither : List ℕ → List ℕ → List ℕ → Type 0
IsEither c a b = (c ≡ a ++ b) ⊎ (c ≡ b ++ a)

-- both groups' numbers and steps, under the lower one's first visit
pub record Joined (lower : GroupView) (upper : GroupView) (g : GroupView) : Type 0 where
  pub nodes : IsEither g.nodes lower.nodes upper.nodes
  pub pending : IsEither g.pending lower.pending upper.pending
  pub first : g.first ≡ lower.first
  pub cyclic : IsTrue g.cyclic

-- the steps from each number
abbrev pub graph_of : List (Vec ℕ) → List (List ℕ)
graph_of graph = map (λ v. v.items) graph

-- the group, each number of which comes back to itself
abbrev pub as_cycle : GroupView → GroupView
as_cycle g = record { nodes = g.nodes; pending = g.pending; first = g.first; cyclic = true }
