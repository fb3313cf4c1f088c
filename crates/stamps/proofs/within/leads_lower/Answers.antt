use Rattle.std.proofs.Common.{◌≡◌, ◌↔◌, ℕ, List, IsTrue, refl, subst, sym, ◌∙◌, length, arith}
use Rattle.std.proofs.lemmas.Option.{slice_get_read}
use Rattle.chains.specs.Graphs.{In, steps_of}
use Rattle.chains.specs.Groups.{graph_of}
use Rattle.chains.proofs.ClosureLaws.{steps_at}
use Rattle.stamps.specs.Within.{Lower}
use Rattle.stamps.proofs.Stamps.{none_lower, raised_row}
use Rattle.stamps.proofs.within.leads_lower.Goals as goal

pub one_lower-requires : goal.one_lower-requires
one_lower-requires c = record {
  within = λ x h.
      let own : steps_of (graph_of c.args.graph.now) c.args.a ≡ c.as_slice-row.result.now = steps_at c.args.graph.now c.args.a c.index-graph-a.result
      (slice_get_read c.args.graph.now (length c.args.graph.now) c.args.a c.index-graph-a.result refl c.requires.within c.index-graph-a.is) ∙ sym c.as_slice-row.ensures.value in
      let w = c.requires.steps c.args.a x (subst (In x) (sym own) h) in
      let s = c.requires.size in
      omega (arith, w, s);
}

pub stamp_set-requires : goal.stamp_set-requires
stamp_set-requires c = record {
  within = λ x h.
      let own : steps_of (graph_of c.args.graph.now) c.args.a ≡ c.as_slice-row.result.now = steps_at c.args.graph.now c.args.a c.index-graph-a.result
      (slice_get_read c.args.graph.now (length c.args.graph.now) c.args.a c.index-graph-a.result refl c.requires.within c.index-graph-a.is) ∙ sym c.as_slice-row.ensures.value in
      let w = c.requires.steps c.args.a x (subst (In x) (sym own) h) in
      let s = c.requires.size in
      omega (arith, w, s);
}

pub returns-clause-raised : goal.returns-clause-raised
returns-clause-raised c =
    let own : steps_of (graph_of c.args.graph.now) c.args.a ≡ c.as_slice-row.result.now = steps_at c.args.graph.now c.args.a c.index-graph-a.result
    (slice_get_read c.args.graph.now (length c.args.graph.now) c.args.a c.index-graph-a.result refl c.requires.within c.index-graph-a.is) ∙ sym c.as_slice-row.ensures.value in
    raised_row (graph_of c.args.graph.now) c.args.mine c.args.stamps.now c.stamp_set.new.stamps c.args.a
    (none_lower c.args.stamps.now c.args.mine (steps_of (graph_of c.args.graph.now) c.args.a) c.one_lower.result c.if-one_lower.false
    (subst (λ (row : List ℕ). IsTrue c.one_lower.result ↔ Lower c.args.stamps.now c.args.mine row) (sym own) c.one_lower.ensures))
    (c.requires.closed c.args.a c.if-not-closed-a.false)
    (λ y h. c.stamp_set.ensures.here y (subst (In y) own h))
    (λ y n. c.stamp_set.ensures.there y (λ h. n (subst (In y) (sym own) h)))
