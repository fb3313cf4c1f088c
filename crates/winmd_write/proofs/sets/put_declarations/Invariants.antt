use Rattle.std.specs.Prelude.{◌≡◌, drop}
use Rattle.part_rows.specs.Grown.{with_lines}
use Rattle.kind_rows.specs.Said.{said}
use Rattle.set_referred.specs.Referred.{names_in}
use Rattle.winmd_write.proofs.ImageLaws.{declared_lines}
use Rattle.winmd_write.proofs.sets.put_declarations.Given as goal

abbrev pub invariant-loop-i : goal.invariant-loop-i
invariant-loop-i l = with_lines (names_in l.names) (declared_lines (names_in l.names) (drop l.i l.types)) (said l.out) ≡ with_lines (names_in l.names) (declared_lines (names_in l.names) l.types) (said l.fn.out)
