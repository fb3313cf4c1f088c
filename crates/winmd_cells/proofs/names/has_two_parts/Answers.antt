use Rattle.std.proofs.Common.{◌==◌, ap, nat_le, rules}
use Rattle.std.proofs.lemmas.Iterator.Consumers.{count_from_yields_List}
use Rattle.std.proofs.lemmas.Iterator.Splits.{YieldsList-from_slice_split}
use Rattle.winmd_cells.proofs.names.has_two_parts.Goals as goal

pub returns : goal.returns
returns c =
    ap (nat_le 2) (count_from_yields_List _ _ c.count.ensures.ran
    (YieldsList-from_slice_split _ (λ b. b == 46) c.args.path.now c.split.ensures.rest c.split.ensures.done c.split.ensures.closure
    (λ x b q k. search rules)))
