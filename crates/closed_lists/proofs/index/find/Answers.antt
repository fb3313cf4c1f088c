use Rattle.std.proofs.Common.{Some, None, sym, ◌∙◌}
use Rattle.closed_lists.proofs.Positions.{found_at}
use Rattle.closed_lists.proofs.index.find.Goals as goal

pub returns-in-None : goal.returns-in-None
returns-in-None c = sym (found_at c.args.sites.now c.args.name.now None (sym c.in-None.is ∙ c.place_of.ensures ∙ c.requires c.args.name.now))

pub returns-in-Some : goal.returns-in-Some
returns-in-Some c = c.declaration_at.ensures ∙ sym (found_at c.args.sites.now c.args.name.now (Some c.in-Some.place) (sym c.in-Some.is ∙ c.place_of.ensures ∙ c.requires c.args.name.now))
