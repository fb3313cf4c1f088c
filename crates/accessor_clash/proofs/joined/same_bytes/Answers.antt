use Rattle.std.proofs.Common.{arith, sym, ap, ◌∙◌}
use Rattle.std.specs.Char.{to_ascii_lowercase}
use Rattle.std.proofs.lemmas.Bool.{eqb-false}
use Rattle.accessor_clash.proofs.Bytewise.{other_byte, all_bytes}
use Rattle.accessor_clash.proofs.joined.same_bytes.Goals as goal

pub returns-then-not-eq_ignore_ascii_case : goal.returns-then-not-eq_ignore_ascii_case
returns-then-not-eq_ignore_ascii_case c =
    other_byte c.args.one.now c.args.other.now c.loop-index.index
    (λ e. eqb-false (to_ascii_lowercase c.byte-byte.result) (to_ascii_lowercase c.byte.result) (sym c.eq_ignore_ascii_case.ensures ∙ c.if-not-eq_ignore_ascii_case.true)
    (ap to_ascii_lowercase c.byte-byte.ensures ∙ e ∙ sym (ap to_ascii_lowercase c.byte.ensures)))

pub returns : goal.returns
returns c = all_bytes c.args.one.now c.args.other.now c.loop-index.index c.loop-index.invariant.as_long (let l = c.len-index-end.ensures in omega (arith, l)) c.loop-index.invariant.alike
