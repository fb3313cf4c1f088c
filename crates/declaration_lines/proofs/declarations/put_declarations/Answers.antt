use Rattle.std.proofs.Common.{◌≡◌, ◌∙◌, List, get_or, map, refl}
use Rattle.std.specs.List.{flat_map}
use Rattle.winmd_sets.specs.Declared.{lines_of}
use Rattle.winmd_sets.specs.Rows.{arranged}
use Rattle.wr_base.specs.Trees.{decl_tree}
use Rattle.wr_base.specs.declared.declaration.Declaration.{Declaration}
use Rattle.kind_rows.specs.Said.{said}
use Rattle.kind_rows.proofs.LoopLaws.{loop_step}
use Rattle.declaration_lines.proofs.declarations.put_declarations.Goals as goal

pub loop-declaration-preserved : goal.loop-declaration-preserved
loop-declaration-preserved g c =
    let names = g.N.Referred.names c.args.names.now in
    let all : List Declaration = c.args.declarations.now in
    let x : Declaration = c.declaration-item.result in
    let is = c.declaration-item.is in
    let here : get_or all c.loop-declaration.declaration-index x ≡ x = cc in
    loop_step names (λ (ds : List Declaration). flat_map lines_of (map (arranged names) (map decl_tree ds))) (λ (d : Declaration). lines_of (arranged names (decl_tree d))) (λ y ys. refl) all
    c.loop-declaration.declaration-index x (said c.loop-declaration.out) (said c.put_declaration.new.out) c.loop-declaration-test.true here c.in_ok-put_declaration.ensures
    ∙ c.loop-declaration.invariant
