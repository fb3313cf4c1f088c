-- The limits of a declaration by itself.
use Rattle.ranked.specs.Entries.{Entry}
use Rattle.ranked.specs.First.{Or}
use Rattle.wr_rules.specs.Sites.{Site}
use Rattle.wr_rules.specs.Limits.{IsManyMembers, IsManyParams, IsLongFullName}

-- too many members, too many parameters, or a name that is too long
abbrev pub PastAlone : Site → Entry → Type 0
PastAlone s = Or (IsManyMembers s) (Or (IsManyParams s) (IsLongFullName s))
