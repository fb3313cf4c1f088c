use Rattle.std.proofs.Common.{ℕ, List, length, subst, ◌∙◌, arith}
use Rattle.std.specs.Global.{Vec}
use Rattle.std.proofs.lemmas.List.{length-map}
use Rattle.chains.specs.Groups.{graph_of}
use Rattle.list_rules.specs.Rows.{AreRows}
use Rattle.list_rules.proofs.RowLaws.{graph_is}
use Rattle.list_rules.proofs.FlagLaws.{names_within}
use Rattle.list_rules.proofs.graph.required_graph.Goals as goal

pub widen-requires : goal.widen-requires
widen-requires c =
    let r = c.in_ok-rows.ensures.size in
    let m = length-map c.in_ok-rows.rows.items (λ (v : Vec ℕ). v.items) in
    let n = names_within c.args.types.now c.args.listed.now.count (graph_of c.args.listed.now.sets.items) c.len-count.ensures.order c.requires in
    omega (arith, r, m, n)

pub returns : goal.returns
returns c =
    graph_is c.args.types.now (graph_of c.args.listed.now.sets.items) (graph_of c.in_ok-rows.rows.items) (graph_of c.widen.new.rows.items) c.args.listed.now.count
    (subst (λ (sets : List (Vec ℕ)). AreRows c.args.types.now (graph_of sets) (length c.args.types.now) (graph_of c.in_ok-rows.rows.items)) c.as_slice.ensures.value c.in_ok-rows.ensures)
    (length-map c.widen.new.rows.items (λ (v : Vec ℕ). v.items) ∙ c.in_ok-widen.ensures.size) c.in_ok-widen.ensures.rows
