-- The rules, grouped as they are asked.
use Rattle.std.specs.Prelude.{List}
use Rattle.ranked.specs.Entries.{Entry}
use Rattle.ranked.specs.First.{Among, Or}
use Rattle.wr_base.specs.declared.declaration.Declaration.{Declaration}
use Rattle.wr_rules.specs.Sites.{Site}
use Rattle.wr_rules.specs.ListRules.{IsNotClosed, IsStructCycle, IsRequiresCycle, IsMemberClash}
use Rattle.wr_rules.specs.NameRules.{IsNamespaceClash, IsDuplicateId}
use Rattle.site_rules.specs.SiteRules.{SiteRules}
use Rattle.member_faults.specs.MemberFaults.{MemberFaults}

module _ (types : List Declaration) (sites : List Site) where
  -- on one declaration, or on the members of one
  abbrev pub SiteParts : Entry → Type 0
  SiteParts = Or (SiteRules types sites) (MemberFaults types sites)

  -- on what lists lead to
  abbrev pub Lists : Entry → Type 0
  Lists = Or (Among sites (IsNotClosed types)) (Or (Among sites (IsRequiresCycle types)) (Among sites (IsMemberClash types)))

  -- on lists, and on structs that hold themselves
  abbrev pub GraphParts : Entry → Type 0
  GraphParts = Or Lists (Among sites (IsStructCycle types))

  -- on names and ids of the whole set
  abbrev pub NameParts : Entry → Type 0
  NameParts = Or (IsNamespaceClash sites) (IsDuplicateId types sites)

  -- all 28 rules
  abbrev pub Parts : Entry → Type 0
  Parts = Or SiteParts (Or GraphParts NameParts)
