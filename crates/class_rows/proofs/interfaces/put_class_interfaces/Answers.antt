use Rattle.std.proofs.Common.{◌≡◌, ◌∙◌, List, get_or, map, option_map, refl}
use Rattle.std.specs.List.{flat_map}
use Rattle.winmd_sets.specs.Declared.{class_interface}
use Rattle.wr_base.specs.Trees.{tree_of}
use Rattle.wr_base.specs.declared.type_use.TypeUse.{TypeUse}
use Rattle.kind_rows.specs.Said.{said}
use Rattle.kind_rows.proofs.LoopLaws.{loop_step}
use Rattle.class_rows.proofs.interfaces.put_class_interfaces.Goals as goal

pub loop-ty-preserved : goal.loop-ty-preserved
loop-ty-preserved g c =
    let all : List TypeUse = c.args.uses.now in
    let x : TypeUse = c.ty-item.result in
    let is = c.ty-item.is in
    let here : get_or all c.loop-ty.ty-index x ≡ x = cc in
    let front = class_interface (option_map tree_of c.args.default.now) in
    loop_step (g.N.Referred.names c.args.names.now) (λ (us : List TypeUse). flat_map front (map tree_of us)) (λ (u : TypeUse). front (tree_of u)) (λ y ys. refl) all c.loop-ty.ty-index x
    (said c.loop-ty.out) (said c.put_class_interface.new.out) c.loop-ty-test.true here c.in_ok-put_class_interface.ensures
    ∙ c.loop-ty.invariant
