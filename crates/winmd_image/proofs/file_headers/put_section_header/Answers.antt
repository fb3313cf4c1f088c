-- Each call adds its part at the end.
use Rattle.std.proofs.Common.{append_assoc}
use Rattle.winmd_image.specs.Spelled.{section_header}
use Rattle.winmd_image.proofs.file_headers.put_section_header.Goals as goal

pub returns : goal.returns
unfolding section_header
returns c = rw (c.in_ok-put_number.ensures, c.in_ok-put_zeros-2.ensures, c.in_ok-put_numbers.ensures, c.in_ok-put_zeros.ensures, c.in_ok-extend_from_slice.ensures.items, c.rounded.ensures) (simp append_assoc)
