-- The rules on members of one name and on the members of factories, together.
use Rattle.std.specs.Prelude.{List}
use Rattle.ranked.specs.Entries.{Entry}
use Rattle.ranked.specs.First.{Among, Or}
use Rattle.wr_base.specs.declared.declaration.Declaration.{Declaration}
use Rattle.wr_rules.specs.Sites.{Site}
use Rattle.wr_rules.specs.MemberRules.{IsOverloadKind, IsMemberCase, IsAccessorClash}
use Rattle.wr_rules.specs.FactoryRules.{IsConstructorArity, IsFactoryShape}

-- one of these is broken at a declaration
abbrev pub MemberFaults : List Declaration → List Site → Entry → Type 0
MemberFaults types sites =
    Or (Among sites IsOverloadKind)
    (Or (Among sites IsMemberCase)
    (Or (Among sites IsAccessorClash)
    (Or (Among sites (IsConstructorArity sites)) (Among sites (IsFactoryShape types sites)))))
