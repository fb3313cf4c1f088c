use Rattle.std.proofs.Common.{◌≡◌, ◌↔◌, ℕ, Some, IsTrue, Result, Ok, Err, IfOk, Bool, length, slice_get, slice_index_or, map, false, List, ◌<◌, ap, sym, subst, ◌∙◌, arith}
use Rattle.std.specs.Global.{Vec}
use Rattle.std.proofs.lemmas.List.{length-map}
use Rattle.chains.specs.Graphs.{Chain as GraphChain, IsClosed}
use Rattle.chains.specs.Groups.{graph_of}
use Rattle.wr_base.specs.Declarations.{name_of, IsInOrder}
use Rattle.wr_base.specs.declared.declaration.Declaration.{Declaration}
use Rattle.wr_rules.specs.Closures.{Chain, Holds}
use Rattle.struct_cycles.specs.Places.{held_by}
use Rattle.struct_cycles.proofs.Links.{closed_graph, cycle_is, there_below}
use Rattle.struct_cycles.proofs.cycles.struct_cycles.Goals as goal

-- as many numbers as declarations
same_length : (types : List Declaration) (graph : List (Vec ℕ)) → graph_of graph ≡ map (held_by types) types → length graph ≡ length types
same_length types graph e = let a = length-map graph (λ (v : Vec ℕ). v.items) in let b = length-map types (held_by types) in let l = ap length e in omega (arith, a, b, l)

told : {E : Type 0} (r : Result (Vec Bool) E) (types : List Declaration) (graph : List (Vec ℕ)) → IsInOrder types → graph_of graph ≡ map (held_by types) types
    → IfOk r (λ on. (a : ℕ) → a < length graph → (IsTrue (slice_index_or on.items a false) ↔ GraphChain (graph_of graph) a a))
    → IfOk r (λ on. (k : ℕ) (d : Declaration) → slice_get types k ≡ Some d → (IsTrue (slice_index_or on.items k false) ↔ Chain (Holds types) (name_of d) (name_of d)))
told (Err e) types graph o is h = tt
told (Ok on) types graph o is h = λ k d at.
    let below = there_below types k d at in
    let size = same_length types graph is in
    let own = h k (omega (arith, below, size)) in
    let link = cycle_is types (graph_of graph) is k d o at in
    (λ t. link.0 (own.0 t), λ c. own.1 (link.1 c))

lengths : {E : Type 0} (r : Result (Vec Bool) E) (a b : ℕ) → a ≡ b → IfOk r (λ on. length on.items ≡ a) → IfOk r (λ on. length on.items ≡ b)
lengths (Err e) a b q h = tt
lengths (Ok on) a b q h = h ∙ q

pub on_cycles-requires : goal.on_cycles-requires
on_cycles-requires c = record {
  bounded = let size = same_length c.args.types.now c.in_ok-graph.graph.items c.in_ok-graph.ensures in let short = c.len-count.ensures.order.short in let same = ap length c.as_slice.ensures.value in omega (arith, size, short, same);
  closed =
      let size = same_length c.args.types.now c.in_ok-graph.graph.items c.in_ok-graph.ensures in
      subst (λ (g : List (Vec ℕ)). IsClosed (graph_of g) (length g)) (sym c.as_slice.ensures.value)
      (subst (IsClosed (graph_of c.in_ok-graph.graph.items)) (sym size) (closed_graph c.args.types.now (graph_of c.in_ok-graph.graph.items) c.in_ok-graph.ensures));
}

pub returns : goal.returns
returns c = record {
  length = lengths c.on_cycles.result (length c.as_slice.result.now) (length c.args.types.now) (ap length c.as_slice.ensures.value ∙ same_length c.args.types.now c.in_ok-graph.graph.items c.in_ok-graph.ensures) c.on_cycles.ensures.length;
  cycles = told c.on_cycles.result c.args.types.now c.as_slice.result.now c.len-count.ensures.order (ap graph_of c.as_slice.ensures.value ∙ c.in_ok-graph.ensures) c.on_cycles.ensures.cycles;
}
