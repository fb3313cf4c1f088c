-- Ids that are gathered one after the other, each text once.
use Rattle.std.specs.Prelude.{◌≡◌, ℕ, IsTrue, List, ◌++◌, Option}
use Rattle.std.specs.Ordering.{nat_cmp}
use Rattle.std.specs.Cmp.Lexicographic.{slice_cmp}
use Rattle.std.specs.HashSet.{contains_text}
use Rattle.std.specs.FinMap.{find}
use Rattle.std.specs.Option.{is_some}
use Rattle.wr_base.specs.Sets.{keyed}
use Rattle.wr_base.specs.Ids.{id_text}
use Rattle.std.specs.List.{flat_map}
use Rattle.wr_base.specs.Trees.{reference, tree_of}
use Rattle.wr_base.specs.declared.ids.UseId.{UseId}
use Rattle.wr_base.specs.declared.type_use.TypeUse.{TypeUse}
use Rattle.wr_base.specs.declared.declaration.Field.{Field}
use Rattle.wr_base.specs.declared.declaration.Param.{Param}
use Rattle.wr_base.specs.declared.declaration.Member.{Member}
use Rattle.wr_base.specs.declared.declaration.Declaration.{Declaration}
use Rattle.wr_rules.specs.Kinds.{option_list}
use Rattle.pinterface_id.specs.Listing.{ids_within, member_trees, declared_id}
use Rattle.pinterface_id.specs.declared.gathered.Gathered.{Gathered}

-- the first id of this text
abbrev pub id_under : List UseId → List ℕ → Option UseId
id_under ids text = find (slice_cmp nat_cmp) text (keyed id_text ids)

-- the two lists have the same first id of each text
abbrev pub Agree : List UseId → List UseId → Type 0
Agree xs ys = (text : List ℕ) → id_under xs text ≡ id_under ys text

-- the texts that are known have an id in the list
abbrev pub Knows : Gathered → Type 0
Knows g = (text : List ℕ) → IsTrue (contains_text g.known text) → IsTrue (is_some (id_under g.list.items text))

-- more ids were gathered
pub record Gathers (more : List UseId) (old : Gathered) (new : Gathered) : Type 0 where
  pub knows : Knows old → Knows new
  pub agree : Knows old → Agree new.list.items (old.list.items ++ more)

-- ---- the ids of one element of a list

-- a declaration's own id
abbrev pub own_ids : Declaration → List UseId
own_ids d = option_list (declared_id d)

module _ (types : List Declaration) where
  -- the ids of a name
  abbrev pub name_ids : List ℕ → List UseId
  name_ids name = ids_within types (reference name)

  -- the ids of a use
  abbrev pub type_ids : TypeUse → List UseId
  type_ids ty = ids_within types (tree_of ty)

  -- the ids of a field
  abbrev pub field_ids : Field → List UseId
  field_ids f = ids_within types (tree_of f.ty)

  -- the ids of a parameter
  abbrev pub param_ids : Param → List UseId
  param_ids p = ids_within types (tree_of p.ty)

  -- the ids of a member
  abbrev pub member_ids : Member → List UseId
  member_ids m = flat_map (ids_within types) (member_trees m)
