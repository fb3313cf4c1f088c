use Rattle.std.proofs.Common.{List, Bool, subst}
use Rattle.ranked.specs.First.{IsFirst, Among}
use Rattle.ranked.proofs.FirstLaws.{union_as}
use Rattle.wr_base.specs.declared.code.Code.TheVariants.{NotClosed, RequiresCycle}
use Rattle.wr_rules.specs.Sites.{sites_of}
use Rattle.wr_rules.specs.ListRules.{IsNotClosed}
use Rattle.wr_rules.proofs.CycleLaws.{IsListedCycle, cycles_by_list}
use Rattle.flagged_sites.specs.Flags.{Flagged}
use Rattle.list_rules.proofs.RuleLaws.{open_first, cyclic_first}
use Rattle.list_rules.proofs.rules.first_cyclic.Goals as goal

pub returns : goal.returns
returns c =
    cycles_by_list c.args.types.now.types (sites_of c.args.types.now.types c.args.types.now.places) c.earlier.result
    (union_as (Among (sites_of c.args.types.now.types c.args.types.now.places) (IsNotClosed c.args.types.now.types)) (Among (sites_of c.args.types.now.types c.args.types.now.places) IsListedCycle) c.in_ok-open.open c.in_ok-cyclic.cyclic c.earlier.result c.earlier.ensures
    (open_first c.args.types.now.types c.args.types.now.places c.args.flags.now.open.items c.in_ok-open.open c.requires.open
    (subst (λ (on : List Bool). IsFirst (Flagged (sites_of c.args.types.now.types c.args.types.now.places) on NotClosed) c.in_ok-open.open) c.as_slice.ensures.value c.in_ok-open.ensures))
    (cyclic_first c.args.types.now.types c.args.types.now.places c.args.flags.now.cyclic.items c.in_ok-cyclic.cyclic c.requires.cyclic
    (subst (λ (on : List Bool). IsFirst (Flagged (sites_of c.args.types.now.types c.args.types.now.places) on RequiresCycle) c.in_ok-cyclic.cyclic) c.as_slice-2.ensures.value c.in_ok-cyclic.ensures)))
