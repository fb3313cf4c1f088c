use Rattle.std.proofs.Common.{ℕ, Err, sym, subst}
use Rattle.std.specs.Str.{IsValidUpTo}
use Rattle.ranked.specs.declared.stop.Stop.TheVariants.{Refused}
use Rattle.midl_lex.specs.declared.fault.Fault.TheVariants.{NotUtf8}
use Rattle.midl_lex.proofs.Firsts.{is_only, is_first}
use Rattle.midl_lex.proofs.lexing.tokens.Goals as goal

pub returns-in-Ok-clause-only : goal.returns-in-Ok-clause-only
returns-in-Ok-clause-only c = is_only c.args.file c.args.bytes.now c.cut_all.result c.cut_all.ensures.ok c.cut_all.ensures.refused

pub returns-in-Ok-clause-first : goal.returns-in-Ok-clause-first
returns-in-Ok-clause-first c = is_first c.args.file c.args.bytes.now c.cut_all.result c.cut_all.ensures.ok c.cut_all.ensures.refused

pub returns-in-Err-clause-first : goal.returns-in-Err-clause-first
returns-in-Err-clause-first c = is_first c.args.file c.args.bytes.now (Err (Refused c.refusal.result)) tt (c.valid_up_to-offset.result, NotUtf8, c.refusal.ensures, subst (λ (n : ℕ). IsValidUpTo c.args.bytes.now n) (sym c.valid_up_to-offset.ensures) c.in-Err.ensures.cases.1)
