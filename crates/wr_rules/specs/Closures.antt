-- Chains, and closures as least sets.
use Rattle.std.specs.Prelude.{◌≡◌, ℕ, Bool, IsTrue, List, [], Option, Some, Contains}
use Rattle.std.specs.List.{list_any}
use Rattle.std.specs.Str.{bytes_eq}
use Rattle.wr_base.specs.Uses.{text_of}
use Rattle.wr_base.specs.declared.declaration.Declaration.{Declaration}
use Rattle.wr_base.specs.declared.declaration.Declaration.TheVariants.{Interface}
use Rattle.wr_base.specs.declared.declaration.Field.{Field}
use Rattle.wr_base.specs.declared.type_use.TypeUse.{TypeUse}
use Rattle.wr_base.specs.Trees.{UseTree, plain, value, reference, instance, tree_of}
use Rattle.wr_base.specs.Declarations.{declared_as}
use Rattle.wr_rules.specs.Members.{fields_of}

-- what leads from one to another in one or more steps
pub data Chain {X : Type 0} (Step : X → X → Type 0) (a : X) : X → Type 0 where
  one : {b : X} → Step a b → Chain Step a b
  further : {b : X} {c : X} → Chain Step a b → Step b c → Chain Step a c

-- what an interface requires as it is listed
abbrev pub requires_of : Option Declaration → List TypeUse
requires_of (Some (Interface name version id owner requires_ members)) = requires_
requires_of _ = []

-- what the interface of this text requires as it is listed; a found interface requires nothing
abbrev pub required_at : List Declaration → List ℕ → List TypeUse
required_at types text = requires_of (declared_as types text)

-- a list has a use of this text
abbrev pub lists : List TypeUse → List ℕ → Bool
lists list text = list_any (λ u. bytes_eq (text_of u) text) list

-- the texts of what a list leads to: the least set that has what is listed, and with each text what is required there
pub data Closed (types : List Declaration) (list : List TypeUse) : List ℕ → Type 0 where
  listed : {text : List ℕ} → IsTrue (lists list text) → Closed types list text
  required : {text : List ℕ} {next : List ℕ} → Closed types list text → IsTrue (lists (required_at types text) next) → Closed types list next

-- a use names a type directly, and not as an argument
abbrev pub Names : UseTree → List ℕ → Type 0
Names (value own) name = own ≡ name
Names (reference own) name = own ≡ name
Names (plain base) name = ⊥
Names (instance own arguments) name = ⊥

-- a struct has a field of the type of this name
abbrev pub Holds : List Declaration → List ℕ → List ℕ → Type 0
Holds types holder name = (d : Declaration) × (f : Field) × (declared_as types holder ≡ Some d) × Contains (fields_of d) f × Names (tree_of f.ty) name
