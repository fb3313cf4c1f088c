-- What joining the last groups keeps.
use Rattle.std.specs.Prelude.{◌≡◌, ◌≤◌, ◌+◌, ◌++◌, ℕ, List, [], ◌∷◌, length}
use Rattle.chains.specs.declared.group.Mark.{Mark}
use Rattle.chains.specs.declared.group.Mark.TheVariants.{Open}
use Rattle.chains.specs.Graphs.{In, Step}
use Rattle.chains.specs.Groups.{GroupView}
use Rattle.chains.specs.Search.{nodes_in, Stack}

-- how many steps and groups there are
abbrev pub size_of : List GroupView → ℕ
size_of [] = 0
size_of (g ∷ gs) = length g.pending + 1 + size_of gs

-- a step from the last group leads to an open number on the path
pub record Meets (graph : List (List ℕ)) (mark : ℕ → Mark) (w : ℕ) (u : ℕ) (number : ℕ) (g : GroupView) (below : List GroupView) : Type 0 where
  pub from : In u g.nodes
  pub step : Step graph u w
  pub to : In w (g.nodes ++ nodes_in below)
  pub open_ : mark w ≡ Open number
  pub stack : Stack graph mark (w ∷ []) (g ∷ below)

-- the last groups are one, of all their numbers
pub record Merged (number : ℕ) (g : GroupView) (below : List GroupView) (h : GroupView) (rest : List GroupView) : Type 0 where
  pub stack : (graph : List (List ℕ)) (mark : ℕ → Mark) (w u : ℕ) → Meets graph mark w u number g below → Stack graph mark [] (h ∷ rest)
  pub nodes : (a : ℕ) → In a (nodes_in (g ∷ below)) → In a (nodes_in (h ∷ rest))
  pub size : size_of (h ∷ rest) ≤ size_of (g ∷ below)
