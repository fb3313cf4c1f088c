use Rattle.std.proofs.Common.{◌≡◌, take}
use Rattle.wr_rules.specs.Members.{standing}
use Rattle.placed_sites.specs.Views.{site_view}
use Rattle.site_parts.proofs.standing.stand_all.Given as goal

abbrev pub invariant-loop-i : goal.invariant-loop-i
invariant-loop-i g l = l.list.items ≡ take l.i (standing (site_view l.site) g.X.Titled.title l.parts (site_view l.site).places.parts)
