-- The marks of the search, and what holds between two parts of it.
use Rattle.std.specs.Prelude.{◌≡◌, ◌≢◌, ◌<◌, ◌≤◌, ◌+◌, ◌*◌, ℕ, Bool, false, List, [], ◌∷◌, length, slice_index_or, sum_by}
use Rattle.chains.specs.declared.group.Mark.{Mark}
use Rattle.chains.specs.declared.group.Mark.TheVariants.{New, Open, Done}
use Rattle.chains.specs.Graphs.{In, Step}
use Rattle.chains.specs.Groups.{GroupView}
use Rattle.chains.specs.Merging.{size_of}
use Rattle.chains.specs.Search.{Stack, Left, OnPath}

-- the mark of a number; past the end all are new
abbrev pub mark_in : List Mark → ℕ → Mark
mark_in marks a = slice_index_or marks a New

-- 1 where a number wasn't met
abbrev pub new_at : Mark → ℕ
new_at New = 1
new_at (Open k) = 0
new_at (Done b) = 0

-- how many are new
abbrev pub news : List Mark → ℕ
news marks = sum_by new_at marks

-- what holds between two steps of the search
pub record State (graph : List (List ℕ)) (marks : List Mark) (views : List GroupView) (number : ℕ) : Type 0 where
  pub stack : Stack graph (mark_in marks) [] views
  pub left : Left graph (mark_in marks)
  pub on_path : OnPath graph (mark_in marks) views
  pub visits : (a k : ℕ) → mark_in marks a ≡ Open k → k < number
  pub room : number + news marks ≤ length marks
  pub whole : length marks ≡ length graph

-- the same where a step to w is taken from the last group
pub record Taken (graph : List (List ℕ)) (marks : List Mark) (g : GroupView) (below : List GroupView) (w : ℕ) (number : ℕ) : Type 0 where
  pub u : ℕ
  pub from : In u g.nodes
  pub step : Step graph u w
  pub stack : Stack graph (mark_in marks) (w ∷ []) (g ∷ below)
  pub left : Left graph (mark_in marks)
  pub on_path : OnPath graph (mark_in marks) (g ∷ below)
  pub visits : (a k : ℕ) → mark_in marks a ≡ Open k → k < number
  pub room : number + news marks ≤ length marks
  pub whole : length marks ≡ length graph

-- how many steps a graph has
abbrev pub total_steps : List (List ℕ) → ℕ
total_steps [] = 0
total_steps (steps ∷ more) = length steps + total_steps more

-- how much is left to do
abbrev pub weight : List (List ℕ) → List Mark → List GroupView → ℕ
weight graph marks views = news marks * (total_steps graph + 2) + size_of views

-- what was met stays met
abbrev pub Known : List Mark → List Mark → Type 0
Known old new = (a : ℕ) → mark_in old a ≢ New → mark_in new a ≢ New

-- a step is done: what was met stays met
pub record Stepped (graph : List (List ℕ)) (old : List Mark) (most : ℕ) (new : List Mark) (after : List GroupView) (number : ℕ) : Type 0 where
  pub state : State graph new after number
  pub known : Known old new
  pub smaller : weight graph new after < most

-- nothing is open
abbrev pub Idle : List (List ℕ) → List Mark → ℕ → Type 0
Idle graph marks number = State graph marks [] number

-- one more is left, and what was met stays met
pub record Explored (graph : List (List ℕ)) (root : ℕ) (old : List Mark) (new : List Mark) (number : ℕ) : Type 0 where
  pub idle : Idle graph new number
  pub known : Known old new
  pub done : mark_in new root ≢ New

-- whether a number that is left comes back to itself
abbrev pub told : Mark → Bool
told New = false
told (Open k) = false
told (Done b) = b
