-- Sets of declarations put together.
use Rattle.std.specs.Prelude.{◌≡◌, ℕ, ⊤, List}
use Rattle.std.specs.List.{Contains, flat_map}
use Rattle.std.specs.Ordering.{nat_cmp}
use Rattle.std.specs.Cmp.Lexicographic.{slice_cmp}
use Rattle.std.specs.declared.cmp.Ordering.TheVariants.{Less}
use Rattle.ranked.specs.declared.stop.Stop.{Stop}
use Rattle.ranked.specs.declared.stop.Stop.TheVariants.{Refused, Memory}
use Rattle.wr_base.specs.Declarations.{name_of, IsInOrder}
use Rattle.wr_base.specs.Normal.{normal}
use Rattle.wr_base.specs.declared.declaration.Declaration.{Declaration}

-- the declarations of all sets, one set behind the other
abbrev pub all_of : List (List Declaration) → List Declaration
all_of sets = flat_map (λ set. set) sets

-- the union: what the sets declare, in the order of full names, each name once
pub record IsUnion (sets : List (List Declaration)) (types : List Declaration) : Type 0 where
  pub order : IsInOrder types
  pub within : (d : Declaration) → Contains types d → Contains (all_of sets) d
  pub whole : (d : Declaration) → Contains (all_of sets) d → Contains types d

-- two declarations of this full name differ
pub record Conflicts (sets : List (List Declaration)) (name : List ℕ) : Type 0 where
  pub one : Declaration
  pub other : Declaration
  pub one_declared : Contains (all_of sets) one
  pub other_declared : Contains (all_of sets) other
  pub one_named : name_of one ≡ name
  pub other_named : name_of other ≡ name
  pub apart : one ≡ other → ⊥

-- the least full name of which two declarations differ
pub record LeastConflict (sets : List (List Declaration)) (name : List ℕ) : Type 0 where
  pub stands : Conflicts sets name
  pub least : (other : List ℕ) → slice_cmp nat_cmp other name ≡ Less → ¬ (Conflicts sets other)

-- a fact of what is refused; of want of memory nothing is said
abbrev pub OnRefused : {R : Type 0} → (R → Type 0) → Stop R → Type 0
OnRefused P Memory = ⊤
OnRefused P (Refused refusal) = P refusal

-- its lists that stand for sets are in order, each text once
abbrev pub IsNormal : Declaration → Type 0
IsNormal d = normal d ≡ d
