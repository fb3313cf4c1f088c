use Rattle.std.proofs.Common.{sym, ap, ◌∙◌}
use Rattle.std.specs.HashSet.{contains_text}
use Rattle.wr_rules.specs.Kinds.{named}
use Rattle.wr_rules.specs.Signatures.{own_id}
use Rattle.pinterface_id.proofs.Gatherings.{gathers_known_alone}
use Rattle.pinterface_id.proofs.listing.gather_name.Goals as goal

pub returns-then-knows : goal.returns-then-knows
returns-then-knows c =
    gathers_known_alone c.args.gathered.now c.args.name.now (own_id (named c.args.types.now c.args.name.now 0))
    (ap (contains_text c.args.gathered.now.known) (sym c.as_str.ensures.value) ∙ sym c.knows.ensures ∙ c.if-knows.true)
