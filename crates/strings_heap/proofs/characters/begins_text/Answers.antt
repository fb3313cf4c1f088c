use Rattle.std.proofs.Common.{arith}
use Rattle.strings_heap.proofs.StepLaws.{begins_zero, begins_ascii}
use Rattle.strings_heap.proofs.characters.begins_text.Goals as goal

pub returns-then-byte-eq0 : goal.returns-then-byte-eq0
returns-then-byte-eq0 c = begins_zero c.args.bytes.now c.args.at c.requires.within c.if-byte-eq0.true

pub returns-then-byte-lt128 : goal.returns-then-byte-lt128
returns-then-byte-lt128 c =
    begins_ascii c.args.bytes.now c.args.at c.args.behind c.is_marked.result c.requires.within c.requires.marks (omega (arith, c.if-byte-eq0.false)) c.if-byte-lt128.true c.is_marked.ensures
