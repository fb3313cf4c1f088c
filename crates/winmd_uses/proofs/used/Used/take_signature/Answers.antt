use Rattle.std.proofs.Common.{List, map, ap}
use Rattle.std.specs.List.{flat_map}
use Rattle.std.specs.Option.{option_map}
use Rattle.wr_base.specs.declared.declaration.Param.{Param}
use Rattle.wr_base.specs.Trees.{param_tree, signature_tree, tree_of}
use Rattle.winmd_lines.specs.UsedNames.{names_in_result, names_in_signature, names_in_use}
use Rattle.winmd_uses.specs.Takes.{both, names_alone}
use Rattle.winmd_uses.proofs.TakeLaws.{same_is, takes_last}
use Rattle.winmd_uses.proofs.used.Used.take_signature.Goals as goal

pub returns : goal.returns
returns c =
    let one = names_alone (names_in_result (option_map tree_of c.args.sig.now.result)) in
    let params = names_alone (flat_map (λ param. names_in_use param.kind) (map param_tree c.as_slice.result.now)) in
    takes_last c.take_params.result one params (names_alone (names_in_signature (signature_tree c.args.sig.now))) c.args.self.now c.take_result.new.self c.take_params.new.self
    (same_is (both one params) (names_alone (names_in_signature (signature_tree c.args.sig.now)))
    (ap (λ (ps : List Param). both one (names_alone (flat_map (λ param. names_in_use param.kind) (map param_tree ps)))) c.as_slice.ensures))
    c.in_ok-take_result.ensures c.take_params.ensures
