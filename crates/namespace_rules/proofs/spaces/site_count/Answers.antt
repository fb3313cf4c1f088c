use Rattle.std.proofs.Common.{sym, ◌∙◌, arith}
use Rattle.placed_sites.proofs.Firsts.{sites_by_types, sites_by_places}
use Rattle.namespace_rules.proofs.spaces.site_count.Goals as goal

pub returns-then-placed-declared-clause-count : goal.returns-then-placed-declared-clause-count
returns-then-placed-declared-clause-count c =
    c.len-placed.ensures ∙ sym (sites_by_places c.args.types.now.types c.args.types.now.places (omega (arith, c.len-placed.ensures, c.len-declared.ensures.len, c.if-placed-declared.true)))

pub returns-else-placed-declared-clause-count : goal.returns-else-placed-declared-clause-count
returns-else-placed-declared-clause-count c =
    c.len-declared.ensures.len
    ∙ sym (sites_by_types c.args.types.now.types c.args.types.now.places (omega (arith, c.len-placed.ensures, c.len-declared.ensures.len, c.if-placed-declared.false)))
