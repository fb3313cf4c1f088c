use Rattle.std.proofs.Common.{refl, ◌∙◌, arith}
use Rattle.wr_rules.specs.Sites.{sites_of}
use Rattle.placed_sites.specs.Views.{site_view}
use Rattle.place_order.proofs.StandLaws.{stands_none, stands_more, stands_all}
use Rattle.place_order.proofs.stands.stands_of.Goals as goal

pub loop-i-init : goal.loop-i-init
loop-i-init c = c.new-stands.ensures.items ∙ stands_none (sites_of c.args.types.now.types c.args.types.now.places)

pub loop-i-preserved : goal.loop-i-preserved
loop-i-preserved c =
    stands_more (sites_of c.args.types.now.types c.args.types.now.places) c.loop-i.i (site_view c.at-site.result) _ c.loop-i.stands.items c.push.new.self.items (omega (arith, c.site_count-i-end.ensures.count)) c.at-site.ensures refl c.loop-i.invariant c.in_ok-push.ensures.items

pub returns : goal.returns
returns c = stands_all (sites_of c.args.types.now.types c.args.types.now.places) c.loop-i.i c.loop-i.stands.items c.loop-i.invariant (omega (arith, c.site_count-i-end.ensures.count))
