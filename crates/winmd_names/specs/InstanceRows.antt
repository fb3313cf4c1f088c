-- Where instances have their TypeSpecs.
use Rattle.std.specs.Prelude.{ℕ, suc, List, [], ◌∷◌, Option, Some, None, Vec, if◌then◌else◌}
use Rattle.std.specs.declared.alloc.Global.{Global}
use Rattle.std.specs.declared.hash.BuildHasherDefault.{BuildHasherDefault}
use Rattle.std.specs.declared.hash.FoldHasher.{FoldHasher}
use Rattle.std.specs.HashMap.{HashMap, get_by}
use Rattle.std.specs.Str.{bytes_eq}
use Rattle.wr_base.specs.Trees.{UseTree, same_use}

abbrev pub KeyedRows : Type 0
KeyedRows = HashMap (Vec ℕ Global) ℕ (BuildHasherDefault FoldHasher)

-- the row under a key
abbrev pub row_under : KeyedRows → List ℕ → Option ℕ
row_under rows key = get_by (λ k. bytes_eq key k.items) rows

-- The row of a use: that of the first of the instances that it is, which stand in the rows from one on.
abbrev pub row_among : ℕ → List UseTree → UseTree → Option ℕ
row_among row [] u = None
row_among row (v ∷ vs) u = if same_use u v then Some row else row_among (suc row) vs u
