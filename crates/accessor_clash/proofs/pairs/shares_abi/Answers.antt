use Rattle.std.proofs.Common.{sym, ap, ◌∙◌}
use Rattle.wr_rules.specs.Members.{abi_names}
use Rattle.wr_rules.specs.MemberRules.{has_name}
use Rattle.accessor_clash.proofs.Pieces.{by_second}
use Rattle.accessor_clash.proofs.pairs.shares_abi.Goals as goal

pub returns-in-Some : goal.returns-in-Some
returns-in-Some c =
    c.has_name-in-Some.ensures
    ∙ by_second (has_name (abi_names c.args.other.now)) c.args.one.now c.in-Some.second (sym c.second_of.ensures ∙ c.in-Some.is)
    (ap (has_name (abi_names c.args.other.now)) (sym c.first_of.ensures) ∙ sym c.has_name.ensures ∙ c.if-has_name.false)
