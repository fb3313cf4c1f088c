use Rattle.std.proofs.Common.{◌≡◌, ◌≢◌, ◌<◌, ◌+◌, ℕ, arith, sym, ap, subst, ◌∙◌, length, rules, List, map, ⊎_elim}
use Rattle.std.proofs.lemmas.List.{length-map}
use Rattle.chains.specs.declared.group.Mark.{Mark}
use Rattle.chains.specs.declared.group.Mark.TheVariants.{New}
use Rattle.chains.specs.Groups.{graph_of}
use Rattle.chains.specs.Marks.{mark_in, Idle, told}
use Rattle.chains.proofs.Marking.{written_whole, same_or_not}
use Rattle.chains.proofs.Steps.{tells, if_ok_then}
use Rattle.chains.proofs.cycles.on_cycles.Goals as goal

pub loop-root-preserved : goal.loop-root-preserved
loop-root-preserved c =
    let whole = written_whole c.loop-root.marks.len c.cover.new.marks c.loop-root.marks.items (search rules) (search rules) in
    subst (λ (ms : List Mark). record { idle : Idle (graph_of c.args.graph.now) ms c.in_ok-number.number; done : (a : ℕ) → a < c.loop-root.root + 1 → mark_in ms a ≢ New }) (sym whole) (record {
      idle = c.in_ok-number.ensures.idle;
      done = λ a l. ⊎_elim
          (λ e. subst (λ x. mark_in c.cover.new.marks x ≢ New) e c.in_ok-number.ensures.done)
          (λ n. (let low : a < c.loop-root.root = omega (arith, l, n) in c.in_ok-number.ensures.known a (subst (λ (ms : List Mark). mark_in ms a ≢ New) (sym c.deref_mut.ensures.value) (c.loop-root.invariant.done a low))))
          (same_or_not c.loop-root.root a);
    })

pub returns-clause-cycles : goal.returns-clause-cycles
returns-clause-cycles c =
    let size : length c.args.graph.now ≡ length c.loop-root.marks.items = sym (c.loop-root.invariant.idle.whole ∙ length-map c.args.graph.now (λ v. v.items)) in
    if_ok_then c.all_told.result _ _
    (λ on e. tells (graph_of c.args.graph.now) c.loop-root.marks.items c.loop-root.number c.loop-root.invariant.idle on.items (length c.args.graph.now)
    (e ∙ ap (map told) c.deref.ensures.value) size (λ a l. c.loop-root.invariant.done a (omega (arith, l, c.loop-root-test.false)))) c.all_told.ensures
