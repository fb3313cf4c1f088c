-- Instances, each once.
use Rattle.std.specs.Prelude.{◌≡◌, ℕ, bytes_eq, Bool, List, [], ◌∷◌, ◌++◌, map, Vec, if◌then◌else◌}
use Rattle.std.specs.List.{list_any}
use Rattle.std.specs.declared.alloc.Global.{Global}
use Rattle.std.specs.HashSet.{contains_by}
use Rattle.wr_base.specs.Trees.{UseTree, same_use, tree_of}
use Rattle.winmd_uses.specs.Keys.{key_of}
use Rattle.winmd_uses.specs.Known.{Hashed}
use Rattle.winmd_uses.specs.declared.instances.Instances.{Instances}

abbrev pub has_bytes : Hashed (Vec ℕ Global) → List ℕ → Bool
has_bytes keys key = contains_by (λ k. bytes_eq key k.items) keys

abbrev pub has_key : Instances → List ℕ → Bool
has_key i key = has_bytes i.keys key

abbrev pub all_of : Instances → List UseTree
all_of i = map tree_of i.list.items

-- those that are there have their keys
abbrev pub Agrees : Instances → Type 0
Agrees i = (u : UseTree) → has_key i (key_of u) ≡ list_any (same_use u) (all_of i)

-- none is there
pub record HasNone (i : Instances) : Type 0 where
  pub agrees : Agrees i
  pub none : all_of i ≡ []

-- behind the others, unless it is among them
abbrev pub add_once : List UseTree → UseTree → List UseTree
add_once us u = if list_any (same_use u) us then us else us ++ u ∷ []

-- a use is added
pub record Adds (u : UseTree) (old new : Instances) : Type 0 where
  pub agrees : Agrees old → Agrees new
  pub all : Agrees old → all_of new ≡ add_once (all_of old) u
