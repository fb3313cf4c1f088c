use Rattle.std.proofs.Common.{◌∙◌, ap, sym, Option, ℕ}
use Rattle.std.specs.Prelude.{is_some}
use Rattle.md_tables.specs.Faults.{is_unknown}
use Rattle.md_tables.proofs.FirstLemmas.{first_here, first_on, first_none}
use Rattle.md_tables.proofs.bits.has_unknown.Goals as goal

pub returns-then-is_unknown : goal.returns-then-is_unknown
returns-then-is_unknown c =
    ap (λ (o : Option ℕ). is_some o) (sym (first_here (is_unknown c.args.valid) c.loop-n.n 64 c.loop-n-test.true (sym c.is_unknown.ensures ∙ c.if-is_unknown.true)) ∙ c.loop-n.invariant)

pub loop-n-preserved : goal.loop-n-preserved
loop-n-preserved c =
    sym (first_on (is_unknown c.args.valid) c.loop-n.n 64 c.loop-n-test.true (sym c.is_unknown.ensures ∙ c.if-is_unknown.false)) ∙ c.loop-n.invariant

pub returns : goal.returns
returns c = ap (λ (o : Option ℕ). is_some o) (sym (first_none (is_unknown c.args.valid) c.loop-n.n 64 c.loop-n-test.false) ∙ c.loop-n.invariant)
