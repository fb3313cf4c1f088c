use Rattle.std.proofs.Common.{ℕ, sym, ap, subst, ◌∙◌, arith}
use Rattle.chains.specs.Groups.{graph_of}
use Rattle.list_rules.specs.Rows.{AreRows, row_of}
use Rattle.list_rules.proofs.RowLaws.{rows_none, rows_more}
use Rattle.list_rules.proofs.graph.rows_of.Goals as goal

pub loop-i-init : goal.loop-i-init
loop-i-init c = subst (AreRows c.args.types.now (graph_of c.args.sets.now) 0) (sym (ap graph_of c.new-rows.ensures.items)) (rows_none c.args.types.now (graph_of c.args.sets.now))

pub loop-i-preserved : goal.loop-i-preserved
loop-i-preserved c =
    rows_more c.args.types.now (graph_of c.args.sets.now) c.loop-i.i c.at.result.now c.loop-i.rows.items c.push.new.self.items c.in_ok-row.row c.at.ensures.value c.loop-i.invariant c.in_ok-push.ensures.items
    (c.in_ok-row.ensures ∙ ap (row_of c.at.result.now) c.row_at.ensures)

pub returns : goal.returns
returns c = subst (λ (n : ℕ). AreRows c.args.types.now (graph_of c.args.sets.now) n (graph_of c.loop-i.rows.items)) (let l = c.len-i-end.ensures.len in omega (arith, l)) c.loop-i.invariant
