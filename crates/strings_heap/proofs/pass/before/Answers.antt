use Rattle.std.proofs.Common.{◌∙◌, arith}
use Rattle.strings_heap.proofs.MarkLaws.{marks_before}
use Rattle.strings_heap.proofs.PlaceLaws.{first_zero-here, first_zero-behind}
use Rattle.strings_heap.proofs.pass.before.Goals as goal

pub returns-then-bytes-at-eq0 : goal.returns-then-bytes-at-eq0
returns-then-bytes-at-eq0 c = record {
  marks = marks_before c.args.bytes.now c.args.at c.marked-marks.result c.args.behind.marks c.begins_text-first.result c.begins_text-first.ensures c.marked-marks.ensures.front
      c.marked-marks.ensures.behind c.requires.behind.marks;
  zero = first_zero-here c.args.bytes.now c.args.at c.requires.within c.if-bytes-at-eq0.true;
}

pub returns-else-bytes-at-eq0 : goal.returns-else-bytes-at-eq0
returns-else-bytes-at-eq0 c = record {
  marks = marks_before c.args.bytes.now c.args.at c.marked-marks.result c.args.behind.marks c.begins_text-first.result c.begins_text-first.ensures c.marked-marks.ensures.front
      c.marked-marks.ensures.behind c.requires.behind.marks;
  zero = c.requires.behind.zero ∙ first_zero-behind c.args.bytes.now c.args.at c.requires.within (λ e. omega (arith, e, c.if-bytes-at-eq0.false));
}
