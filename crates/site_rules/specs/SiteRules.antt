-- The rules on one declaration, grouped.
use Rattle.std.specs.Prelude.{List}
use Rattle.ranked.specs.Entries.{Entry}
use Rattle.ranked.specs.First.{Among, Or}
use Rattle.wr_base.specs.declared.declaration.Declaration.{Declaration}
use Rattle.wr_rules.specs.Sites.{Site}
use Rattle.wr_rules.specs.UseRules.{IsUnresolved, IsWrongKind, IsFieldType, IsUseKind, IsExclusiveUse, IsReferenceArgument, IsEventType, IsEventDelegate, IsInterfaceWanted}
use Rattle.wr_rules.specs.MemberRules.{IsEnumRepeat, IsFieldRepeat, IsParamRepeat, IsEnumRange, IsStructEmpty, IsOverloadArity}
use Rattle.wr_rules.specs.ListRules.{IsDefaultMissing, IsStaticMembers}

-- on uses at any depth
abbrev pub Depths : List Declaration → Site → Entry → Type 0
Depths types s = Or (IsUnresolved types s) (Or (IsWrongKind types s) (Or (IsReferenceArgument types s) (Or (IsUseKind types s) (IsExclusiveUse types s))))

-- on uses as they stand
abbrev pub Stands : List Declaration → Site → Entry → Type 0
Stands types s = Or (IsFieldType types s) (Or (IsEventType types s) (Or (IsEventDelegate types s) (IsInterfaceWanted types s)))

-- on names that a later part repeats
abbrev pub Names : Site → Entry → Type 0
Names s = Or (IsEnumRepeat s) (Or (IsFieldRepeat s) (Or (IsParamRepeat s) (IsOverloadArity s)))

-- on cases, structs and classes
abbrev pub Parts : List Declaration → Site → Entry → Type 0
Parts types s = Or (IsEnumRange s) (Or (IsStructEmpty s) (Or (IsDefaultMissing types s) (IsStaticMembers types s)))

-- one of these is broken at a declaration
abbrev pub SiteRules : List Declaration → List Site → Entry → Type 0
SiteRules types sites = Or (Or (Among sites (Depths types)) (Among sites (Stands types))) (Or (Among sites Names) (Among sites (Parts types)))
