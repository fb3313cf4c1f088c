use Rattle.std.proofs.Common.{◌≡◌, ◌+◌, suc, length, map, ap, arith}
use Rattle.std.proofs.lemmas.Result.{err_from_is_err_and}
use Rattle.winmd_cells.specs.Seen.{tables_in}
use Rattle.winmd_methods.specs.Seen.{params_by, sequenced_seen}
use Rattle.winmd_methods.proofs.ParamLaws.{params_stop, params_turn}
use Rattle.wr_base.specs.Trees.{param_tree}
use Rattle.winmd_methods.proofs.params.params_by.Goals as goal

pub returns-in_err-param : goal.returns-in_err-param
returns-in_err-param c =
    let t = tables_in c.args.source.now.image in
    let rows = map (sequenced_seen c.args.source.now.image) c.args.rows.now in
    let p = err_from_is_err_and c.from_residual.result c.from_residual.ensures.1 in
    rw (p.1, p.2) (params_stop t c.args.offset rows c.each.n c.each.done.items c.in-Some.param.now c.in-Some.after.now c.each.rest.now _ (params_by t c.args.offset rows 1 (map param_tree c.args.params.now)) c.in-Some.ensures.cases.0 c.in_err-param.ensures c.each.invariant.1)

pub each-preserved : goal.each-preserved
each-preserved c =
    let t = tables_in c.args.source.now.image in
    let rows = map (sequenced_seen c.args.source.now.image) c.args.rows.now in
    let long = ap length c.in-Some.ensures.cases.0 in
    let count = c.each.invariant.0 in
    let next : c.each.n + 1 ≡ suc c.each.n = omega arith in (
      omega (arith, long, count),
      params_turn t c.args.offset rows c.each.n (c.each.n + 1) c.each.done.items c.push.new.self.items c.in_ok-param.param c.in-Some.param.now c.in-Some.after.now c.each.rest.now (params_by t c.args.offset rows 1 (map param_tree c.args.params.now))
          c.in-Some.ensures.cases.0 c.in_ok-param.ensures next c.in_ok-push.ensures.items c.each.invariant.1,
    )
