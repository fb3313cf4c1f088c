use Rattle.std.proofs.Common.{ℕ, length, ap, arith}
use Rattle.std.specs.Global.{Vec}
use Rattle.std.proofs.lemmas.List.{length-map}
use Rattle.chains.specs.Groups.{graph_of}
use Rattle.wr_base.specs.declared.declaration.Declaration.{Declaration}
use Rattle.wr_rules.specs.ListRules.{lacks, listed_in}
use Rattle.list_rules.specs.Open.{TellOpen, TellCyclic, FlagsAre, lists_itself}
use Rattle.list_rules.proofs.TwiceLaws.{if_ok_then}
use Rattle.list_rules.proofs.FlagLaws.{fewer, rows_below, sets_below, open_told, cyclic_told}
use Rattle.list_rules.proofs.open.list_flags.Goals as goal

pub tell-requires-clause-few : goal.tell-requires-clause-few
tell-requires-clause-few c =
    let w = c.in_ok-graph.ensures.size in
    let m = length-map c.in_ok-graph.graph.items (λ (v : Vec ℕ). v.items) in
    let q = ap length c.as_slice.ensures.value in
    omega (arith, w, m, q)

pub tell-requires-clause-size : goal.tell-requires-clause-size
tell-requires-clause-size c =
    fewer c.args.types.now c.len-count.ensures.order c.in_ok-listed.listed.count c.in_ok-listed.listed.sets.items c.in_ok-graph.graph.items c.as_slice-2.result.now c.as_slice.result.now c.as_slice-2.ensures.value c.as_slice.ensures.value c.in_ok-listed.ensures c.in_ok-graph.ensures

pub tell-requires-clause-steps : goal.tell-requires-clause-steps
tell-requires-clause-steps c =
    rows_below c.args.types.now c.len-count.ensures.order c.in_ok-listed.listed.count c.in_ok-listed.listed.sets.items c.in_ok-graph.graph.items c.as_slice-2.result.now c.as_slice.result.now c.as_slice-2.ensures.value c.as_slice.ensures.value c.in_ok-listed.ensures c.in_ok-graph.ensures

pub tell-requires-clause-within : goal.tell-requires-clause-within
tell-requires-clause-within c =
    sets_below c.args.types.now c.len-count.ensures.order c.in_ok-listed.listed.count c.in_ok-listed.listed.sets.items c.in_ok-graph.graph.items c.as_slice-2.result.now c.as_slice.result.now c.as_slice-2.ensures.value c.as_slice.ensures.value c.in_ok-listed.ensures c.in_ok-graph.ensures

pub returns-clause-open : goal.returns-clause-open
returns-clause-open c =
    if_ok_then c.tell.result (λ flags. TellOpen (graph_of c.as_slice.result.now) (graph_of c.as_slice-2.result.now) (length c.as_slice-2.result.now) flags.open.items)
    (λ flags. FlagsAre (λ (d : Declaration). lacks c.args.types.now (listed_in d)) c.args.types.now flags.open.items)
    (λ flags t. open_told c.args.types.now c.len-count.ensures.order c.in_ok-listed.listed.count c.in_ok-listed.listed.sets.items c.in_ok-graph.graph.items c.as_slice-2.result.now c.as_slice.result.now c.as_slice-2.ensures.value c.as_slice.ensures.value c.in_ok-listed.ensures c.in_ok-graph.ensures
    flags.open.items t) c.tell.ensures.open

pub returns-clause-cyclic : goal.returns-clause-cyclic
returns-clause-cyclic c =
    if_ok_then c.tell.result (λ flags. TellCyclic (graph_of c.as_slice.result.now) (length c.as_slice-2.result.now) flags.cyclic.items)
    (λ flags. FlagsAre lists_itself c.args.types.now flags.cyclic.items)
    (λ flags t. cyclic_told c.args.types.now c.len-count.ensures.order c.in_ok-listed.listed.count c.in_ok-listed.listed.sets.items c.in_ok-graph.graph.items c.as_slice-2.result.now c.as_slice.result.now c.as_slice-2.ensures.value c.as_slice.ensures.value c.in_ok-listed.ensures c.in_ok-graph.ensures
    flags.cyclic.items t) c.tell.ensures.cyclic
