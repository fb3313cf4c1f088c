-- What images state of a declaration: names within their limits, uses within their depth, lists in order.
use Rattle.std.specs.Prelude.{◌≡◌, ℕ, zero, suc, ◌<◌, ⊤, true, false, bytes_eq, List, Option, Some, None}
use Rattle.std.specs.List.{AllByRecursion}
use Rattle.sig_blobs.specs.Elements.{system_guid}
use Rattle.winmd_lines.specs.Orders.{Rising}
use Rattle.winmd_sets.specs.Fits.{IsName, IsPart, OwnerFits}
use Rattle.wr_base.specs.Paths.{is_path}
use Rattle.wr_base.specs.Trees.{UseTree, plain, value, reference, instance, UseTrees, no_uses, use_and, count_of, text_of_tree, ParamTree, SignatureTree, FieldTree, MemberTree, method, property, event, DeclTree, enum, struct, delegate, interface, class}

-- what holds of each name in a use that is at most so deep, whose values aren't `System.Guid` and whose instances have arguments
module _ (N : List ℕ → Type 0) where
  abbrev mutual
    pub UseOf : ℕ → UseTree → Type 0
    UseOf zero u = ⊥
    UseOf (suc depth) (plain base) = ⊤
    UseOf (suc depth) (value name) = N name × (bytes_eq name system_guid ≡ false)
    UseOf (suc depth) (reference name) = N name
    UseOf (suc depth) (instance name arguments) = N name × (0 < count_of arguments) × UsesOf depth arguments

    pub UsesOf : ℕ → UseTrees → Type 0
    UsesOf depth no_uses = ⊤
    UsesOf depth (use_and u us) = UseOf depth u × UsesOf depth us

-- names that are paths, and within the limits
abbrev pub UseRead : UseTree → Type 0
UseRead u = UseOf IsName 16 u

abbrev pub IsPath : List ℕ → Type 0
IsPath name = is_path name ≡ true

abbrev pub OptionRead : Option UseTree → Type 0
OptionRead None = ⊤
OptionRead (Some u) = UseRead u

pub record ParamRead (p : ParamTree) : Type 0 where
  pub named : IsPart 255 p.name
  pub kind : UseRead p.kind

pub record SignatureRead (sig : SignatureTree) : Type 0 where
  pub result : OptionRead sig.result
  pub params : AllByRecursion ParamRead sig.params

pub record FieldRead (f : FieldTree) : Type 0 where
  pub named : IsPart 255 f.name
  pub kind : UseRead f.kind

abbrev pub MemberRead : MemberTree → Type 0
MemberRead (method name abi sig) = IsPart 255 name × IsPart 511 abi × SignatureRead sig
MemberRead (property name u put) = IsPart 255 name × UseRead u
MemberRead (event name u) = IsPart 255 name × UseRead u

-- names in order, each a path within the limits
pub record NamesRead (names : List (List ℕ)) : Type 0 where
  pub named : AllByRecursion IsName names
  pub rising : Rising (λ name. name) names

-- uses in the order of their texts
pub record UsesRead (us : List UseTree) : Type 0 where
  pub uses : AllByRecursion UseRead us
  pub rising : Rising text_of_tree us

abbrev pub PartsRead : DeclTree → Type 0
PartsRead (enum name version flags cases) = AllByRecursion (λ c. IsPart 255 c.name) cases
PartsRead (struct name version fields) = AllByRecursion FieldRead fields
PartsRead (delegate name version id invoke) = SignatureRead invoke
PartsRead (interface name version id owner us ms) = OwnerFits owner × UsesRead us × AllByRecursion MemberRead ms
PartsRead (class name version fixed default us direct factories statics) = OptionRead default × UsesRead us × NamesRead factories × NamesRead statics

abbrev pub name_in : DeclTree → List ℕ
name_in (enum name version flags cases) = name
name_in (struct name version fields) = name
name_in (delegate name version id invoke) = name
name_in (interface name version id owner us ms) = name
name_in (class name version fixed default us direct factories statics) = name

pub record IsRead (d : DeclTree) : Type 0 where
  pub named : IsName (name_in d)
  pub parts : PartsRead d
