-- Rules that do not look at the other declarations.
use Rattle.std.proofs.Common.{◌≡◌, List, [], refl}
use Rattle.ranked.specs.Entries.{Entry}
use Rattle.wr_base.specs.declared.declaration.Declaration.{Declaration}
use Rattle.wr_rules.specs.Sites.{Site}
use Rattle.wr_rules.specs.ListRules.{IsDefaultMissing, IsStaticMembers}

pub default_alike : (types : List Declaration) (s : Site) (e : Entry) → IsDefaultMissing [] s e ≡ IsDefaultMissing types s e
default_alike types s e = refl

pub static_alike : (types : List Declaration) (s : Site) (e : Entry) → IsStaticMembers [] s e ≡ IsStaticMembers types s e
static_alike types s e = refl
