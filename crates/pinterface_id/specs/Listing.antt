-- The ids that a set uses, by the texts of what has them.
use Rattle.std.specs.Prelude.{List, [], ◌∷◌, ◌++◌, Option, Some, map}
use Rattle.std.specs.List.{filter_map, flat_map}
use Rattle.std.specs.Option.{option_map}
use Rattle.wr_base.specs.Sets.{set_by}
use Rattle.wr_base.specs.Ids.{id_text}
use Rattle.wr_base.specs.Declarations.{name_of}
use Rattle.wr_base.specs.Trees.{UseTree, reference, within, text_of_tree, tree_of}
use Rattle.wr_base.specs.declared.ids.UseId.{UseId}
use Rattle.wr_base.specs.declared.declaration.Signature.{Signature}
use Rattle.wr_base.specs.declared.declaration.Member.{Member}
use Rattle.wr_base.specs.declared.declaration.Member.TheVariants.{Method, Property, Event}
use Rattle.wr_base.specs.declared.declaration.Declaration.{Declaration}
use Rattle.wr_base.specs.declared.declaration.Declaration.TheVariants.{Enum, Struct, Delegate, Interface, Class}
use Rattle.wr_rules.specs.Kinds.{declared, option_list}
use Rattle.wr_rules.specs.Signatures.{own_id, id_of}

-- the types of parameters and of the result
abbrev pub signature_trees : Signature → List UseTree
signature_trees s = map (λ p. tree_of p.ty) s.params ++ map tree_of (option_list s.result)

-- the types that a member uses
abbrev pub member_trees : Member → List UseTree
member_trees (Method name abi sig) = signature_trees sig
member_trees (Property name ty put) = tree_of ty ∷ []
member_trees (Event name ty) = tree_of ty ∷ []

-- the types that a declaration uses, in its members, fields, parameters and lists
abbrev pub trees_in : Declaration → List UseTree
trees_in (Enum name version flags cases) = []
trees_in (Struct name version fields) = map (λ f. tree_of f.ty) fields
trees_in (Delegate name version id invoke) = signature_trees invoke
trees_in (Interface name version id owner requires_ members) = map tree_of requires_ ++ flat_map member_trees members
trees_in (Class name version fixed default has direct factories statics) = map tree_of (option_list default) ++ map tree_of has ++ map reference factories ++ map reference statics

-- a declared interface's or delegate's own id
abbrev pub declared_id : Declaration → Option UseId
declared_id d = option_map (λ id. record { text = name_of d; id = id }) (own_id (Some (declared d)))

module _ (types : List Declaration) where
  -- the id of an interface, a delegate or an instance that has one, under its text
  abbrev pub used_id : UseTree → Option UseId
  used_id u = option_map (λ id. record { text = text_of_tree u; id = id }) (id_of types u)

  -- the ids of a use and of all uses within it
  abbrev pub ids_within : UseTree → List UseId
  ids_within u = filter_map used_id (within u)

  -- the ids that a declaration uses
  abbrev pub ids_in : Declaration → List UseId
  ids_in d = flat_map ids_within (trees_in d)

  -- all ids, those of declarations first
  abbrev pub all_ids : List UseId
  all_ids = filter_map declared_id types ++ flat_map ids_in types

  -- all ids in the order of texts, each text once
  abbrev pub listing : List UseId
  listing = set_by id_text all_ids
