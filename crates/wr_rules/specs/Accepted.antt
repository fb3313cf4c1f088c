-- What is broken in a set of declarations, and which sets are accepted.
use Rattle.std.specs.Prelude.{◌≤◌, ◌+◌, ◌&&◌, ℕ, Bool, true, false, IsTrue, List, length, max}
use Rattle.std.specs.List.{All}
use Rattle.ranked.specs.Entries.{Entry}
use Rattle.ranked.specs.First.{Or, Among, Then, Clear}
use Rattle.wr_base.specs.Paths.{is_identifier}
use Rattle.wr_base.specs.Places.{plain_from}
use Rattle.wr_base.specs.declared.declaration.Declaration.{Declaration}
use Rattle.wr_base.specs.declared.declaration.Param.{Param}
use Rattle.wr_base.specs.declared.declaration.Member.{Member}
use Rattle.wr_base.specs.declared.declaration.Member.TheVariants.{Method, Property, Event}
use Rattle.wr_base.specs.declared.places.DeclPlaces.{DeclPlaces}
use Rattle.wr_base.specs.Trees.{UseTree, plain, value, reference, instance, UseTrees, no_uses, use_and}
use Rattle.wr_rules.specs.Sites.{Site, sites_of}
use Rattle.wr_rules.specs.Members.{members_of, cases_of, fields_of, member_name}
use Rattle.wr_rules.specs.Uses.{Used, uses_at}
use Rattle.wr_rules.specs.UseRules.{IsUnresolved, IsWrongKind, IsFieldType, IsUseKind, IsExclusiveUse, IsReferenceArgument, IsEventType, IsEventDelegate, IsInterfaceWanted}
use Rattle.wr_rules.specs.MemberRules.{IsEnumRepeat, IsFieldRepeat, IsParamRepeat, IsEnumRange, IsStructEmpty, IsOverloadArity, IsOverloadKind, IsMemberCase, IsAccessorClash, signatures_at}
use Rattle.wr_rules.specs.ListRules.{IsNotClosed, IsDefaultMissing, IsStructCycle, IsRequiresCycle, IsMemberClash, IsStaticMembers}
use Rattle.wr_rules.specs.FactoryRules.{IsConstructorArity, IsFactoryShape}
use Rattle.wr_rules.specs.NameRules.{IsNamespaceClash, IsDuplicateId}
use Rattle.wr_rules.specs.Limits.{Limits}

module _ (types : List Declaration) (sites : List Site) where
  -- the 28 rules, in the order of the table
  abbrev pub Rules : Entry → Type 0
  Rules =
      Or (Among sites (IsUnresolved types))
      (Or (Among sites (IsWrongKind types))
      (Or (Among sites (IsNotClosed types))
      (Or (Among sites (IsDefaultMissing types))
      (Or (Among sites IsEnumRepeat)
      (Or (Among sites IsFieldRepeat)
      (Or (Among sites IsParamRepeat)
      (Or (Among sites IsEnumRange)
      (Or (Among sites IsStructEmpty)
      (Or (Among sites (IsFieldType types))
      (Or (Among sites (IsStructCycle types))
      (Or (Among sites (IsUseKind types))
      (Or (Among sites (IsExclusiveUse types))
      (Or (Among sites (IsReferenceArgument types))
      (Or (Among sites (IsEventType types))
      (Or (Among sites (IsEventDelegate types))
      (Or (Among sites IsOverloadArity)
      (Or (Among sites IsOverloadKind)
      (Or (Among sites IsMemberCase)
      (Or (Among sites IsAccessorClash)
      (Or (Among sites (IsInterfaceWanted types))
      (Or (Among sites (IsRequiresCycle types))
      (Or (Among sites (IsMemberClash types))
      (Or (Among sites (IsStaticMembers types))
      (Or (Among sites (IsConstructorArity sites))
      (Or (Among sites (IsFactoryShape types sites))
      (Or (IsNamespaceClash sites)
      (IsDuplicateId types sites)))))))))))))))))))))))))))

-- what is broken: a rule, or where none is, a limit
abbrev pub Broken : List Declaration → List DeclPlaces → Entry → Type 0
Broken types places = Then (Rules types (sites_of types places)) (Limits (sites_of types places))

-- an identifier of at most 255 bytes
pub record IsName (text : List ℕ) : Type 0 where
  pub identifier : IsTrue (is_identifier text)
  pub short : length text ≤ 255

abbrev mutual
  pub depth : UseTree → ℕ
  depth (plain base) = 1
  depth (value name) = 1
  depth (reference name) = 1
  depth (instance name arguments) = deepest arguments + 1

  pub deepest : UseTrees → ℕ
  deepest no_uses = 0
  deepest (use_and u us) = max (depth u) (deepest us)

abbrev mutual
  pub has_arguments : UseTree → Bool
  has_arguments (plain base) = true
  has_arguments (value name) = true
  has_arguments (reference name) = true
  has_arguments (instance name no_uses) = false
  has_arguments (instance name (use_and u us)) = have_arguments (use_and u us)

  pub have_arguments : UseTrees → Bool
  have_arguments no_uses = true
  have_arguments (use_and u us) = has_arguments u && have_arguments us

-- a use within its depth, each instance with an argument
pub record IsUse (u : UseTree) : Type 0 where
  pub shallow : depth u ≤ 16
  pub applied : IsTrue (has_arguments u)

-- the ABI name of a method; a property and an event have none of their own
abbrev pub abi_of : Member → List ℕ
abi_of (Method name abi sig) = abi
abi_of (Property name ty put) = name
abi_of (Event name ty) = name

-- an ABI name is an identifier of at most 511 bytes
pub record IsAbiName (text : List ℕ) : Type 0 where
  pub identifier : IsTrue (is_identifier text)
  pub short : length text ≤ 511

-- names are identifiers within their limits, uses are shallow, and instances have arguments
pub record IsProper (s : Site) : Type 0 where
  pub cases : All (λ c. IsName c.name) (cases_of s.decl)
  pub fields : All (λ f. IsName f.name) (fields_of s.decl)
  pub members : All (λ m. IsName (member_name m)) (members_of s.decl)
  pub abis : All (λ m. IsAbiName (abi_of m)) (members_of s.decl)
  pub params : All (λ g. All (λ (p : Param). IsName p.name) g.part.params) (signatures_at s)
  pub uses : All (λ (u : Used). IsUse u.use_) (uses_at s)

-- each declaration is so, wherever it stands
abbrev pub Proper : List Declaration → Type 0
Proper types = All IsProper (sites_of types (plain_from 0 types))

-- nothing is broken, in plain places
pub record Accepted (types : List Declaration) : Type 0 where
  pub proper : Proper types
  pub clear : Clear (Broken types (plain_from 0 types))
