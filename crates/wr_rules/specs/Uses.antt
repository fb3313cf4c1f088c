-- The uses of a declaration, each with where it stands and what it is for.
use Rattle.std.specs.Prelude.{ℕ, List, [], ◌∷◌, ◌++◌, Option, Some, None, map}
use Rattle.std.specs.List.{flat_map}
use Rattle.wr_base.specs.declared.type_use.TypeUse.{TypeUse}
use Rattle.wr_base.specs.declared.declaration.Signature.{Signature}
use Rattle.wr_base.specs.declared.declaration.Member.{Member}
use Rattle.wr_base.specs.declared.declaration.Member.TheVariants.{Method, Property, Event}
use Rattle.wr_base.specs.declared.declaration.Declaration.{Declaration}
use Rattle.wr_base.specs.declared.declaration.Declaration.TheVariants.{Enum, Struct, Delegate, Interface, Class}
use Rattle.wr_base.specs.Trees.{UseTree, tree_of, reference}
use Rattle.wr_rules.specs.Sites.{Spot, Site, spot_of}
use Rattle.wr_rules.specs.Members.{Standing, members_at, fields_at}

-- a field's type; a parameter's, result's or property's type; an event's type; an element of `requires` or `has`, or the default; a name of
-- factories or statics
pub data Role : Type 0 where
  field : Role
  passed : Role
  event : Role
  listed : Role
  by_name : Role

-- a use with its role and where it stands
pub record Used : Type 0 where
  pub role : Role
  pub spot : Spot
  pub use_ : UseTree

-- a use in this role
abbrev pub used_at : Role → Spot → TypeUse → Used
used_at role spot u = record { role = role; spot = spot; use_ = tree_of u }

-- a name of factories or statics
abbrev pub name_at : Spot → List ℕ → Used
name_at spot name = record { role = by_name; spot = spot; use_ = reference name }

-- the use, where there is one
abbrev pub optional : Role → Spot → Option TypeUse → List Used
optional role spot None = []
optional role spot (Some u) = used_at role spot u ∷ []

-- the types of parameters and of the result
abbrev pub signature_uses : Spot → Signature → List Used
signature_uses spot s = map (λ p. used_at passed spot p.ty) s.params ++ optional passed spot s.result

-- the uses of a member
abbrev pub uses_by : Spot → Member → List Used
uses_by spot (Method name abi sig) = signature_uses spot sig
uses_by spot (Property name ty put) = used_at passed spot ty ∷ []
uses_by spot (Event name ty) = used_at event spot ty ∷ []

-- the uses of a member where it stands
abbrev pub member_uses : Standing Member → List Used
member_uses m = uses_by m.spot m.part

-- the uses of a declaration of each kind
abbrev pub declared_uses : Site → Declaration → List Used
declared_uses s (Enum name version flags cases) = []
declared_uses s (Struct name version fields) = map (λ f. used_at field f.spot f.part.ty) (fields_at s)
declared_uses s (Delegate name version id invoke) = signature_uses (spot_of s) invoke
declared_uses s (Interface name version id owner requires_ members) = map (used_at listed (spot_of s)) requires_ ++ flat_map member_uses (members_at s)
declared_uses s (Class name version fixed default has direct factories statics) =
    optional listed (spot_of s) default ++ map (used_at listed (spot_of s)) has ++ map (name_at (spot_of s)) factories ++ map (name_at (spot_of s)) statics

-- all uses of a declaration
abbrev pub uses_at : Site → List Used
uses_at s = declared_uses s s.decl
