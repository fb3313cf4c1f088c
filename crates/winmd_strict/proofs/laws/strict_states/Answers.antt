use Rattle.winmd_strict.proofs.StrictLaws as laws
use Rattle.winmd_strict.proofs.laws.strict_states.Goals as goal

pub returns : goal.returns
returns c = record { rows = laws.strict_rows; set = laws.strict_states }
