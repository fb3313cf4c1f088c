-- Uses of types, resolved.
use Rattle.std.specs.Prelude.{ℕ, List, [], ◌∷◌, Option, Some, None, map}
use Rattle.std.specs.Option.{option_map}
use Rattle.wr_base.specs.declared.type_use.Base.TheVariants as bases
use Rattle.wr_base.specs.declared.type_use.TypeUse.{TypeUse}
use Rattle.wr_base.specs.declared.type_use.TypeUse.TheVariants.{Plain, Value, Reference}
use Rattle.wr_base.specs.declared.type_use.TypeUse.TheViews.{Inst}
use Rattle.wr_base.specs.declared.declaration.Param.{Param}
use Rattle.wr_base.specs.declared.declaration.Signature.{Signature}
use Rattle.midl_tree.specs.Trees.{TypeTree, base, named, TypeTrees, no_types, type_and, ParamTree}
use Rattle.midl_names.specs.declared.sort.Sort.{Sort}
use Rattle.midl_names.specs.declared.sort.Sort.TheVariants as sorts
use Rattle.midl_names.specs.declared.hit.Hit.{Hit}
use Rattle.midl_names.specs.Lookup.{look_up}
use Rattle.midl_names.specs.Uses.{dotted}

abbrev pub use_by : Sort → List ℕ → List TypeUse → TypeUse
use_by sorts.Value name arguments = Value name
use_by sorts.Reference name arguments = Reference name
use_by (sorts.Template count) name arguments = Inst name arguments

-- the use of the type that look-up finds; where it finds none the use is broken, and what stands here is never seen
abbrev pub use_of : Option Hit → List TypeUse → TypeUse
use_of None arguments = Plain bases.Object
use_of (Some h) arguments = use_by h.sort h.name arguments

module _ (known : List ℕ → Option Sort) (space : List (List ℕ)) where
  abbrev mutual
    pub resolved : TypeTree → TypeUse
    resolved (base b) = Plain b
    resolved (named path arguments) = use_of (look_up known space (dotted path)) (resolved_all arguments)

    pub resolved_all : TypeTrees → List TypeUse
    resolved_all no_types = []
    resolved_all (type_and t ts) = resolved t ∷ resolved_all ts

  abbrev pub param_of : ParamTree → Param
  param_of p = record { name = p.name.text; out = p.out; ty = resolved p.kind }

  abbrev pub signature_of : Option TypeTree → List ParamTree → Signature
  signature_of result params = record { params = map param_of params; result = option_map resolved result }
