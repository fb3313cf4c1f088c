-- A found type without where it lies in memory.
use Rattle.std.specs.Prelude.{ℕ, List, Option}
use Rattle.wr_base.specs.declared.type_use.Base.{Base}

-- what stands where a type is wanted: a base type, a found type by its full name, or an argument of the template
pub data FoundUseRow : Type 0 where
  Plain : Base → FoundUseRow
  Named : List ℕ → FoundUseRow
  Argument : ℕ → FoundUseRow

-- a field or an in parameter
pub record FoundPartRow : Type 0 where
  pub name : List ℕ
  pub type_ : FoundUseRow

-- a method without parameters, or a property that is only read
pub data FoundMemberRow : Type 0 where
  Method : List ℕ → Option FoundUseRow → FoundMemberRow
  Property : List ℕ → FoundUseRow → FoundMemberRow

-- name and fields; name, number of arguments, id and members; the same with the parameters of Invoke
pub data FoundRow : Type 0 where
  Struct : List ℕ → List FoundPartRow → FoundRow
  Interface : List ℕ → ℕ → ℕ → List FoundMemberRow → FoundRow
  Delegate : List ℕ → ℕ → ℕ → List FoundPartRow → FoundRow
