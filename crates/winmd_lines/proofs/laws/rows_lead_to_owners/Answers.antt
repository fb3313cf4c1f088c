use Rattle.winmd_lines.proofs.OwnerLaws.{owned_numbered}
use Rattle.winmd_lines.proofs.laws.rows_lead_to_owners.Goals as goal

pub returns : goal.returns
returns c = owned_numbered
