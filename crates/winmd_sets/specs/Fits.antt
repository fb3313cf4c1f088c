-- Which sets of declarations an image can state: what is asked of each declaration by itself, and of the set.
use Rattle.std.specs.Prelude.{◌≡◌, ℕ, zero, suc, ◌+◌, ◌^◌, ◌<◌, ◌≤◌, ⊤, Bool, true, false, bytes_eq, List, [], ◌∷◌, length, Option, Some, None, ℤ, pos, negsuc, ◌≤ℤ◌}
use Rattle.std.specs.List.{AllByRecursion, filter, list_any}
use Rattle.wr_base.specs.Paths.{is_identifier, is_path}
use Rattle.wr_base.specs.declared.declaration.Case.{Case}
use Rattle.wr_base.specs.Trees.{UseTree, plain, value, reference, instance, UseTrees, no_uses, use_and, count_of, text_of_tree, ParamTree, SignatureTree, FieldTree, MemberTree, method, property, event, DeclTree, enum, struct, delegate, interface, class, name_of}
use Rattle.sig_blobs.specs.Elements.{system_guid}
use Rattle.wr_base.specs.Paths.{is_short_name}
use Rattle.winmd_lines.specs.Orders.{Rising}
use Rattle.winmd_sets.specs.Declared.{is_default}
use Rattle.winmd_sets.specs.Rows.{names_of}
use Rattle.winmd_sets.specs.Types.{all_parts_of}

-- ---- names

-- two or more identifiers, within the limits of full names
pub record IsName (full : List ℕ) : Type 0 where
  pub path : is_path full ≡ true
  pub short : is_short_name full ≡ true

-- an identifier of at most so many bytes
pub record IsPart (most : ℕ) (name : List ℕ) : Type 0 where
  pub identifier : is_identifier name ≡ true
  pub short : length name ≤ most

-- ---- type uses

-- A use of names at most so deep. No value is `System.Guid`, which is the base type Guid; instances have arguments.
abbrev mutual
  pub UseFits : ℕ → UseTree → Type 0
  UseFits zero u = ⊥
  UseFits (suc depth) (plain base) = ⊤
  UseFits (suc depth) (value name) = IsName name × (bytes_eq name system_guid ≡ false)
  UseFits (suc depth) (reference name) = IsName name
  UseFits (suc depth) (instance name arguments) = IsName name × (0 < count_of arguments) × (count_of arguments < 2 ^ 29) × UsesFit depth arguments

  pub UsesFit : ℕ → UseTrees → Type 0
  UsesFit depth no_uses = ⊤
  UsesFit depth (use_and u us) = UseFits depth u × UsesFit depth us

-- a type that a cell names: one by its name, or an instance
abbrev pub CellFits : UseTree → Type 0
CellFits (reference name) = IsName name
CellFits (instance name arguments) = UseFits 16 (instance name arguments)
CellFits _ = ⊥

-- ---- parts of declarations

-- a number in 32 bits: with a sign, or without one
pub record IsInt32 (number : ℤ) : Type 0 where
  pub low : negsuc 2147483647 ≤ℤ number
  pub high : number ≤ℤ pos 2147483647

abbrev pub ValueFits : Bool → ℤ → Type 0
ValueFits false v = IsInt32 v
ValueFits true (pos n) = n < 2 ^ 32
ValueFits true (negsuc n) = ⊥

pub record CaseFits (flags : Bool) (c : Case) : Type 0 where
  pub named : IsPart 255 c.name
  pub fits : ValueFits flags c.value

pub record FieldFits (f : FieldTree) : Type 0 where
  pub named : IsPart 255 f.name
  pub kind : UseFits 16 f.kind

pub record ParamFits (p : ParamTree) : Type 0 where
  pub named : IsPart 255 p.name
  pub kind : UseFits 16 p.kind

abbrev pub ResultFits : Option UseTree → Type 0
ResultFits None = ⊤
ResultFits (Some u) = UseFits 16 u

pub record SignatureFits (sig : SignatureTree) : Type 0 where
  pub result : ResultFits sig.result
  pub params : AllByRecursion ParamFits sig.params
  pub few : length sig.params ≤ 64

pub record MethodFits (name abi : List ℕ) (sig : SignatureTree) : Type 0 where
  pub named : IsPart 255 name
  pub abi_named : IsPart 511 abi
  pub signed : SignatureFits sig

abbrev pub MemberFits : MemberTree → Type 0
MemberFits (method name abi sig) = MethodFits name abi sig
MemberFits (property name u put) = IsPart 255 name × UseFits 16 u
MemberFits (event name u) = IsPart 255 name × CellFits u

abbrev pub OwnerFits : Option (List ℕ) → Type 0
OwnerFits None = ⊤
OwnerFits (Some owner) = IsName owner

abbrev pub listed_default : Option UseTree → List UseTree
listed_default None = []
listed_default (Some u) = u ∷ []

-- ---- declarations

pub record EnumFits (name : List ℕ) (version : ℕ) (flags : Bool) (cs : List Case) : Type 0 where
  pub named : IsName name
  pub numbered : version < 2 ^ 32
  pub few : length cs ≤ 4000
  pub cases : AllByRecursion (CaseFits flags) cs

pub record StructFits (name : List ℕ) (version : ℕ) (fs : List FieldTree) : Type 0 where
  pub named : IsName name
  pub numbered : version < 2 ^ 32
  pub few : length fs ≤ 4000
  pub fields : AllByRecursion FieldFits fs

pub record DelegateFits (name : List ℕ) (version id : ℕ) (invoke : SignatureTree) : Type 0 where
  pub named : IsName name
  pub numbered : version < 2 ^ 32
  pub id_fits : id < 2 ^ 128
  pub signed : SignatureFits invoke

-- required interfaces stand in the order of their texts, each once
pub record InterfaceFits (name : List ℕ) (version id : ℕ) (owner : Option (List ℕ)) (us : List UseTree) (ms : List MemberTree) : Type 0 where
  pub named : IsName name
  pub numbered : version < 2 ^ 32
  pub id_fits : id < 2 ^ 128
  pub owned_by : OwnerFits owner
  pub few : length ms ≤ 4000
  pub uses : AllByRecursion CellFits us
  pub rising : Rising text_of_tree us
  pub members : AllByRecursion MemberFits ms

-- the interfaces of a class, its factories and its statics stand in the order of their texts, each once; the default is one of the interfaces
pub record ClassFits (name : List ℕ) (version : ℕ) (default : Option UseTree) (us : List UseTree) (fs ss : List (List ℕ)) : Type 0 where
  pub named : IsName name
  pub numbered : version < 2 ^ 32
  pub uses : AllByRecursion CellFits us
  pub rising : Rising text_of_tree us
  pub one : filter (is_default default) us ≡ listed_default default
  pub factories : AllByRecursion IsName fs
  pub factories_rising : Rising (λ name. name) fs
  pub statics : AllByRecursion IsName ss
  pub statics_rising : Rising (λ name. name) ss

abbrev pub DeclFits : DeclTree → Type 0
DeclFits (enum name version flags cases) = EnumFits name version flags cases
DeclFits (struct name version fields) = StructFits name version fields
DeclFits (delegate name version id invoke) = DelegateFits name version id invoke
DeclFits (interface name version id owner requires_ members) = InterfaceFits name version id owner requires_ members
DeclFits (class name version fixed default has direct factories statics) = ClassFits name version default has factories statics

-- ---- the set

-- behind so many types with so many parts: within the limits, each full name once
abbrev pub SetFits : ℕ → ℕ → List DeclTree → Type 0
SetFits types parts [] = ⊤
SetFits types parts (d ∷ ds) = (types < 20000) × (parts + all_parts_of d ≤ 500000) × (list_any (λ e. bytes_eq (name_of d) (name_of e)) ds ≡ false) × SetFits (suc types) (parts + all_parts_of d) ds

-- A token has 29 bits, of which two say the table: fewer than 2^26 types are declared, and fewer are referred to.
pub record FewNames (ds : List DeclTree) : Type 0 where
  pub refs : length (names_of ds).refs < 2 ^ 26
  pub types : length ds < 2 ^ 26

pub record Fits (ds : List DeclTree) : Type 0 where
  pub each : AllByRecursion DeclFits ds
  pub set : SetFits 0 0 ds
  pub names : FewNames ds
