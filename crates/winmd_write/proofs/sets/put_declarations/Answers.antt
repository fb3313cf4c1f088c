use Rattle.std.proofs.Common.{◌∙◌, List, refl, sym, arith}
use Rattle.std.proofs.lemmas.List.{at_drop_all}
use Rattle.std.proofs.lemmas.Option.{get_or_from_slice_get}
use Rattle.winmd_lines.specs.Names.{Names}
use Rattle.wr_base.specs.Trees.{decl_tree}
use Rattle.winmd_sets.specs.Declared.{lines_of}
use Rattle.winmd_sets.specs.Rows.{arranged}
use Rattle.wr_base.specs.declared.declaration.Declaration.{Declaration}
use Rattle.part_rows.specs.Grown.{with_lines}
use Rattle.kind_rows.specs.Said.{said}
use Rattle.kind_rows.proofs.LoopLaws.{loop_step}
use Rattle.set_referred.specs.Referred.{names_in}
use Rattle.winmd_write.proofs.ImageLaws.{declared_lines}
use Rattle.winmd_write.proofs.sets.put_declarations.Goals as goal

pub loop-i-preserved : goal.loop-i-preserved
loop-i-preserved c =
    let names : Names = names_in c.args.names.now in
    let all : List Declaration = c.args.types.now in
    let x : Declaration = c.at.result.now in
    loop_step names (declared_lines names) (λ (d : Declaration). lines_of (arranged names (decl_tree d))) (λ y ys. refl) all c.loop-i.i x (said c.loop-i.out) (said c.put_declaration.new.out)
    (let e = c.len-i-end.ensures.len in let l = c.loop-i-test.true in omega (arith, e, l)) (get_or_from_slice_get all c.loop-i.i x x c.at.ensures.value) c.in_ok-put_declaration.ensures
    ∙ c.loop-i.invariant

pub returns-clause-lines : goal.returns-clause-lines
returns-clause-lines c =
    let names : Names = names_in c.args.names.now in
    let all : List Declaration = c.args.types.now in
    sym (at_drop_all (λ (ds : List Declaration). with_lines names (declared_lines names ds) (said c.loop-i.out)) all c.loop-i.i (let e = c.len-i-end.ensures.len in omega (arith, e))) ∙ c.loop-i.invariant
