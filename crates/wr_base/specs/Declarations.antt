-- Parts of a declaration.
use Rattle.std.specs.Prelude.{◌≡◌, ◌<◌, ◌≤◌, ◌+◌, ◌^◌, ℕ, List, [], ◌∷◌, Option, Some, None, if◌then◌else◌, length, count_by, slice_index_or}
use Rattle.std.specs.List.{AllAdjacentBelow}
use Rattle.std.specs.Str.{bytes_eq}
use Rattle.std.specs.Ordering.{nat_cmp}
use Rattle.std.specs.Cmp.Lexicographic.{slice_cmp}
use Rattle.std.specs.declared.cmp.Ordering.TheVariants.{Less}
use Rattle.wr_base.specs.declared.declaration.Declaration.{Declaration}
use Rattle.wr_base.specs.declared.declaration.Declaration.TheVariants.{Enum, Struct, Delegate, Interface, Class}

-- the full name
abbrev pub name_of : Declaration → List ℕ
name_of (Enum name version flags cases) = name
name_of (Struct name version fields) = name
name_of (Delegate name version id invoke) = name
name_of (Interface name version id owner requires_ members) = name
name_of (Class name version fixed default has direct factories statics) = name

-- one full name stands before another
abbrev pub Precedes : Declaration → Declaration → Type 0
Precedes a b = slice_cmp nat_cmp (name_of a) (name_of b) ≡ Less

-- in the order of full names by bytes, each name once
pub record IsInOrder (types : List Declaration) : Type 0 where
  pub rises : AllAdjacentBelow Precedes types (length types)
  pub short : length types < 2 ^ 32

-- the declaration of this full name: the first one, where there are several
abbrev pub declared_as : List Declaration → List ℕ → Option Declaration
declared_as [] name = None
declared_as (d ∷ ds) name = if bytes_eq (name_of d) name then Some d else declared_as ds name

-- how often a full name stands in a list
abbrev pub times : List Declaration → List ℕ → ℕ
times list name = count_by (λ d. bytes_eq (name_of d) name) list

-- no full name stands twice
abbrev pub IsOnce : List Declaration → Type 0
IsOnce list = (name : List ℕ) → times list name ≤ 1

-- the least full name that stands twice
pub record IsLeastTwice (list : List Declaration) (name : List ℕ) : Type 0 where
  pub twice : 2 ≤ times list name
  pub least : (other : List ℕ) → slice_cmp nat_cmp other name ≡ Less → times list other ≤ 1

-- the names rise up to the place i, where the next one is the same
pub record FirstRepeat (list : List Declaration) (i : ℕ) : Type 0 where
  pub inside : i + 1 < length list
  pub rises : AllAdjacentBelow Precedes list (i + 1)
  pub same : (d : Declaration) → name_of (slice_index_or list i d) ≡ name_of (slice_index_or list (i + 1) d)
