use Rattle.std.proofs.Common.{◌∙◌, ◌+◌}
use Rattle.namespace_rules.specs.Spaces.{holds_in, AddsName, SpacesTo}
use Rattle.wr_base.specs.Lower.{lower}
use Rattle.wr_rules.specs.Sites.{sites_of}
use Rattle.placed_sites.specs.Views.{site_view}
use Rattle.namespace_rules.proofs.SpaceLaws.{on_ok_then, sites_more, sites_follow}
use Rattle.namespace_rules.proofs.spaces.add_site.Goals as goal

pub returns-then-follows : goal.returns-then-follows
returns-then-follows c = sites_follow (sites_of c.args.types.now.types c.args.types.now.places) c.args.i (holds_in c.args.set.now) (c.follows.ensures c.if-follows.true) c.requires.before

pub returns : goal.returns
returns c =
    on_ok_then c.add_lower.result (AddsName (lower c.as_str.result.now) c.args.set.now c.add_lower.new.set) (SpacesTo (sites_of c.args.types.now.types c.args.types.now.places) (c.args.i + 1) (holds_in c.add_lower.new.set))
    (λ adds. sites_more (sites_of c.args.types.now.types c.args.types.now.places) c.args.i (site_view c.at-site.result) c.as_str.result.now (holds_in c.args.set.now) (holds_in c.add_lower.new.set) c.at-site.ensures
    (c.as_str.ensures.value ∙ c.name.ensures) c.requires.before adds)
    c.add_lower.ensures
