use Rattle.std.proofs.Common.{◌<◌, refl, sym, ap, subst, ◌∙◌, length, get_or, arith, rules}
use Rattle.std.proofs.lemmas.List.{get_or_default}
use Rattle.std.proofs.lemmas.Option.{slice_get_read}
use Rattle.chains.specs.Graphs.{In, steps_of}
use Rattle.chains.specs.Groups.{graph_of}
use Rattle.chains.specs.Closure.{Met}
use Rattle.chains.proofs.Marking.{In-get_or}
use Rattle.chains.proofs.ClosureLaws.{going_none, going_more, all_found, found_within, room_left, steps_at}
use Rattle.chains.proofs.closure.reached.Goals as goal

pub meet_all-requires-clause-within : goal.meet_all-requires-clause-within
meet_all-requires-clause-within c = λ x h. (let w = c.requires.within x h in omega (arith, w, c.requires.size))

pub more-init : goal.more-init
more-init c = record {
  told = c.in_ok-meet_all.ensures.told;
  going = going_none (graph_of c.args.graph.now) c.args.from.now c.meet_all.new.found.items (subst (λ xs. Met c.args.from.now xs c.meet_all.new.found.items) c.new-found.ensures.items c.in_ok-meet_all.ensures.met);
}

pub bounds-graph-node : goal.bounds-graph-node
bounds-graph-node c =
    let l : c.more.next < length c.more.found.items = search rules in
    let node = sym (get_or_default c.more.found.items c.more.next 0 c.index-node.result.now l) in
    let w = found_within c.more.flags c.more.found.items (get_or c.more.found.items c.more.next 0) c.more.invariant.told (In-get_or c.more.found.items c.more.next l) in
    omega (arith, w, c.index-node.ensures, node, c.requires.size)

pub meet_all-requires-in-more-clause-within : goal.meet_all-requires-in-more-clause-within
meet_all-requires-in-more-clause-within c = λ x h.
    let l : c.more.next < length c.more.found.items = search rules in
    let node = sym (get_or_default c.more.found.items c.more.next 0 c.index-node.result.now l) in
    let w = found_within c.more.flags c.more.found.items (get_or c.more.found.items c.more.next 0) c.more.invariant.told (In-get_or c.more.found.items c.more.next l) in
    let inside : c.index-node.result.now < length c.args.graph.now = omega (arith, w, c.index-node.ensures, node, c.requires.size) in
    let steps = steps_at c.args.graph.now c.index-node.result.now c.index-graph-node.result (slice_get_read c.args.graph.now (length c.args.graph.now) c.index-node.result.now c.index-graph-node.result refl inside c.index-graph-node.is) in
    let to = c.requires.closed c.index-node.result.now x (subst (In x) (c.as_slice.ensures.value ∙ sym steps) h) in
    omega (arith, to, c.requires.size)

pub more-smaller : goal.more-smaller
more-smaller c =
    let l : c.more.next < length c.more.found.items = search rules in
    let r = room_left c.more.flags c.more.found.items c.more.next c.more.invariant.told l in
    omega (arith, r)

pub more-preserved : goal.more-preserved
more-preserved c =
    let l : c.more.next < length c.more.found.items = search rules in
    let node = sym (get_or_default c.more.found.items c.more.next 0 c.index-node.result.now l) in
    let w = found_within c.more.flags c.more.found.items (get_or c.more.found.items c.more.next 0) c.more.invariant.told (In-get_or c.more.found.items c.more.next l) in
    let inside : c.index-node.result.now < length c.args.graph.now = omega (arith, w, c.index-node.ensures, node, c.requires.size) in
    let steps = steps_at c.args.graph.now c.index-node.result.now c.index-graph-node.result (slice_get_read c.args.graph.now (length c.args.graph.now) c.index-node.result.now c.index-graph-node.result refl inside c.index-graph-node.is) in
    let met = subst (λ xs. Met xs c.more.found.items c.meet_all-in-more.new.found.items) (c.as_slice.ensures.value ∙ sym steps ∙ ap (steps_of (graph_of c.args.graph.now)) (c.index-node.ensures ∙ node)) c.in_ok-meet_all-2.ensures.met in
    record {
      told = c.in_ok-meet_all-2.ensures.told;
      going = going_more (graph_of c.args.graph.now) c.args.from.now c.more.found.items c.meet_all-in-more.new.found.items c.more.next l met c.more.invariant.going;
    }

pub returns-clause-reached : goal.returns-clause-reached
returns-clause-reached c = all_found (graph_of c.args.graph.now) c.args.from.now c.more.found.items c.more.next (search rules) c.more.invariant.going
