use Rattle.ranked.specs.First.{IsFirst, Below}
use Rattle.wr_rules.specs.Sites.{sites_of}
use Rattle.flagged_sites.specs.Flags.{FlaggedAt}
use Rattle.flagged_sites.proofs.pass.first_flagged.Given as goal

abbrev pub invariant-loop-i : goal.invariant-loop-i
invariant-loop-i l = IsFirst (Below l.i (FlaggedAt (sites_of l.types.types l.types.places) l.flags l.code)) l.first
