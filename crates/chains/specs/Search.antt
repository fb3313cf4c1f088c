-- What holds of the search: groups on the path, from the last one down, and marks.
use Rattle.std.specs.Prelude.{◌≡◌, ◌<◌, ◌≤◌, ◌⊎◌, ◌++◌, ◌↔◌, ℕ, Bool, IsTrue, List, [], ◌∷◌}
use Rattle.chains.specs.declared.group.Mark.{Mark}
use Rattle.chains.specs.declared.group.Mark.TheVariants.{Open, Done}
use Rattle.chains.specs.Graphs.{In, Step, Chain, Reach}
use Rattle.chains.specs.Groups.{GroupView}

-- the numbers of groups
abbrev pub nodes_in : List GroupView → List ℕ
nodes_in [] = []
nodes_in (g ∷ gs) = g.nodes ++ nodes_in gs

module _ (graph : List (List ℕ)) (mark : ℕ → Mark) where
  -- a number is left
  abbrev pub IsDone : ℕ → Type 0
  IsDone a = (b : Bool) × (mark a ≡ Done b)

  -- a group, with the groups below it and the numbers above it
  pub record Fine (above : List ℕ) (g : GroupView) (below : List GroupView) : Type 0 where
    pub some : (a : ℕ) × In a g.nodes
    pub reach : (a b : ℕ) → In a (g.nodes ++ nodes_in below) → In b g.nodes → Reach graph a b
    pub turns : IsTrue g.cyclic → (a : ℕ) → In a g.nodes → Chain graph a a
    pub waiting : (w : ℕ) → In w g.pending → (a : ℕ) × In a g.nodes × Step graph a w
    pub followed : (a w : ℕ) → In a g.nodes → Step graph a w → IsDone w ⊎ In w g.pending ⊎ (IsTrue g.cyclic × In w g.nodes) ⊎ In w above
    pub numbered : (a : ℕ) → In a g.nodes → (k : ℕ) × (mark a ≡ Open k) × (g.first ≤ k)
    pub under : (a : ℕ) → In a (nodes_in below) → (k : ℕ) × (mark a ≡ Open k) × (k < g.first)

  -- each group, with those below it
  abbrev pub Stack : List ℕ → List GroupView → Type 0
  Stack above [] = Unit {0}
  Stack above (g ∷ below) = Fine above g below × Stack (g.nodes ++ above) below

  -- what is left leads nowhere else, and is told right
  pub record Left : Type 0 where
    pub closed : (a w : ℕ) → IsDone a → Step graph a w → IsDone w
    pub right : (a : ℕ) (b : Bool) → mark a ≡ Done b → IsTrue b ↔ Chain graph a a

  -- each open number is on the path
  abbrev pub OnPath : List GroupView → Type 0
  OnPath views = (a k : ℕ) → mark a ≡ Open k → In a (nodes_in views)
