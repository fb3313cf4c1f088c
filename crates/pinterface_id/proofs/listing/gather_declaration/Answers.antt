use Rattle.std.proofs.Common.{◌++◌, ℕ, List, map, sym, ap, ◌∙◌}
use Rattle.std.specs.List.{flat_map}
use Rattle.wr_base.specs.declared.ids.UseId.{UseId}
use Rattle.wr_base.specs.declared.declaration.Member.{Member}
use Rattle.wr_base.specs.declared.type_use.TypeUse.{TypeUse}
use Rattle.wr_base.specs.Trees.{UseTree, tree_of, reference}
use Rattle.wr_rules.specs.Kinds.{option_list}
use Rattle.pinterface_id.specs.Listing.{member_trees, ids_within, ids_in}
use Rattle.pinterface_id.proofs.Gatherings.{gathers_then, gathers_last, flat_four, flat_both}
use Rattle.pinterface_id.proofs.listing.gather_declaration.Goals as goal

pub returns-in_ok-gather_uses-in-Interface : goal.returns-in_ok-gather_uses-in-Interface
returns-in_ok-gather_uses-in-Interface c =
    gathers_last c.gather_members.result (flat_map (ids_within c.args.types.now) (map tree_of c.as_slice-in-Interface.result.now)) (flat_map (ids_within c.args.types.now) (flat_map member_trees c.as_slice-in-Interface-2.result.now))
    (ids_in c.args.types.now c.args.declaration.now) c.args.gathered.now c.gather_uses.new.gathered c.gather_members.new.gathered
    (ap (ids_in c.args.types.now) c.in-Interface.is ∙ flat_both (ids_within c.args.types.now) (map tree_of c.in-Interface.requires_) (flat_map member_trees c.in-Interface.members)
    ∙ ap (λ (us : List TypeUse). flat_map (ids_within c.args.types.now) (map tree_of us) ++ flat_map (ids_within c.args.types.now) (flat_map member_trees c.in-Interface.members)) (sym c.as_slice-in-Interface.ensures)
    ∙ ap (λ (ms : List Member). flat_map (ids_within c.args.types.now) (map tree_of c.as_slice-in-Interface.result.now) ++ flat_map (ids_within c.args.types.now) (flat_map member_trees ms)) (sym c.as_slice-in-Interface-2.ensures))
    c.in_ok-gather_uses-in-Interface.ensures c.gather_members.ensures

pub returns-in_ok-gather_names-in-Class : goal.returns-in_ok-gather_names-in-Class
returns-in_ok-gather_names-in-Class c =
    let f : UseTree → List UseId = ids_within c.args.types.now in
    let a : List UseId = flat_map f (map tree_of (option_list c.in-Class.default)) in
    let b : List UseId = flat_map f (map tree_of c.as_slice-in-Class.result.now) in
    let d : List UseId = flat_map f (map reference c.as_slice-in-Class-2.result.now) in
    let e : List UseId = flat_map f (map reference c.as_slice-in-Class-3.result.now) in
    gathers_last c.gather_names-in-Class.result ((a ++ b) ++ d) e (ids_in c.args.types.now c.args.declaration.now) c.args.gathered.now c.gather_names.new.gathered c.gather_names-in-Class.new.gathered
    (ap (ids_in c.args.types.now) c.in-Class.is ∙ flat_four f (map tree_of (option_list c.in-Class.default)) (map tree_of c.in-Class.has) (map reference c.in-Class.factories) (map reference c.in-Class.statics)
    ∙ ap (λ (us : List TypeUse). ((a ++ flat_map f (map tree_of us)) ++ flat_map f (map reference c.in-Class.factories)) ++ flat_map f (map reference c.in-Class.statics)) (sym c.as_slice-in-Class.ensures)
    ∙ ap (λ (ns : List (List ℕ)). ((a ++ b) ++ flat_map f (map reference ns)) ++ flat_map f (map reference c.in-Class.statics)) (sym c.as_slice-in-Class-2.ensures)
    ∙ ap (λ (ns : List (List ℕ)). ((a ++ b) ++ d) ++ flat_map f (map reference ns)) (sym c.as_slice-in-Class-3.ensures))
    (gathers_then (a ++ b) d c.args.gathered.now c.gather_uses-in-Class.new.gathered c.gather_names.new.gathered
    (gathers_then a b c.args.gathered.now c.gather_optional.new.gathered c.gather_uses-in-Class.new.gathered c.in_ok-gather_optional-in-Class.ensures c.in_ok-gather_uses-in-Class.ensures)
    c.in_ok-gather_names-in-Class.ensures)
    c.gather_names-in-Class.ensures
