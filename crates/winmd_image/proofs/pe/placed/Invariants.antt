use Rattle.std.proofs.Common.{◌≡◌, ◌+◌, ◌-◌, ◌*◌}
use Rattle.winmd_image.specs.Pe as pe_as
use Rattle.winmd_image.proofs.pe.placed.Given as goal

abbrev pub invariant-loop-i : goal.invariant-loop-i
invariant-loop-i l =
    pe_as.in_sections l.image (l.sections.count - l.i) (l.sections.first + 40 * l.i) l.cell l.range.offset l.range.size
    ≡ pe_as.in_sections l.image l.sections.count l.sections.first l.cell l.range.offset l.range.size
