use Rattle.std.proofs.Common.{Bool, List, IfOk, subst}
use Rattle.ranked.specs.First.{IsFirst, Among}
use Rattle.wr_base.specs.declared.code.Code.TheVariants.{StructCycle}
use Rattle.wr_rules.specs.Sites.{sites_of, site_name}
use Rattle.wr_rules.specs.Closures.{Chain, Holds}
use Rattle.wr_rules.specs.ListRules.{IsStructCycle}
use Rattle.flagged_sites.specs.Flags.{Flagged}
use Rattle.flagged_sites.proofs.FlagLaws.{flags_decide}
use Rattle.list_rules.proofs.TwiceLaws.{if_ok_then}
use Rattle.list_rules.proofs.RuleLaws.{declaration_at}
use Rattle.list_rules.proofs.rules.first_struct_cycle.Goals as goal

pub returns : goal.returns
returns c =
    if_ok_then c.first_flagged.result (IsFirst (Flagged (sites_of c.args.types.now.types c.args.types.now.places) c.in_ok-on.on.items StructCycle)) (IsFirst (Among (sites_of c.args.types.now.types c.args.types.now.places) (IsStructCycle c.args.types.now.types)))
    (λ r h. flags_decide (sites_of c.args.types.now.types c.args.types.now.places) c.in_ok-on.on.items StructCycle (λ s. Chain (Holds c.args.types.now.types) (site_name s) (site_name s))
    (λ k s at. c.in_ok-on.ensures.cycles k s.decl (declaration_at c.args.types.now.types c.args.types.now.places k s at)) r h)
    (subst (λ (on : List Bool). IfOk c.first_flagged.result (IsFirst (Flagged (sites_of c.args.types.now.types c.args.types.now.places) on StructCycle))) c.as_slice.ensures.value c.first_flagged.ensures)
