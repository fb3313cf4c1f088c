use Rattle.std.proofs.Common.{◌++◌, List, map, sym, ap, ◌∙◌}
use Rattle.std.specs.List.{flat_map}
use Rattle.wr_base.specs.declared.declaration.Param.{Param}
use Rattle.wr_base.specs.Trees.{tree_of}
use Rattle.wr_rules.specs.Kinds.{option_list}
use Rattle.pinterface_id.specs.Listing.{signature_trees, ids_within}
use Rattle.pinterface_id.proofs.Gatherings.{gathers_last, flat_both}
use Rattle.pinterface_id.proofs.listing.gather_signature.Goals as goal

pub returns : goal.returns
returns c =
    gathers_last c.gather_optional.result (flat_map (ids_within c.args.types.now) (map (λ (p : Param). tree_of p.ty) c.as_slice.result.now)) (flat_map (ids_within c.args.types.now) (map tree_of (option_list c.args.sig.now.result)))
    (flat_map (ids_within c.args.types.now) (signature_trees c.args.sig.now)) c.args.gathered.now c.gather_params.new.gathered c.gather_optional.new.gathered
    (flat_both (ids_within c.args.types.now) (map (λ (p : Param). tree_of p.ty) c.args.sig.now.params) (map tree_of (option_list c.args.sig.now.result))
    ∙ ap (λ (ps : List Param). flat_map (ids_within c.args.types.now) (map (λ (p : Param). tree_of p.ty) ps) ++ flat_map (ids_within c.args.types.now) (map tree_of (option_list c.args.sig.now.result))) (sym c.as_slice.ensures))
    c.in_ok-gather_params.ensures c.gather_optional.ensures
