-- Each call adds its part at the end.
use Rattle.std.proofs.Common.{append_assoc}
use Rattle.winmd_image.specs.Spelled.{file_header}
use Rattle.winmd_image.proofs.file_headers.put_file_header.Goals as goal

pub returns : goal.returns
unfolding file_header
returns c = rw (c.in_ok-put_numbers-3.ensures, c.in_ok-put_numbers-2.ensures, c.in_ok-put_numbers.ensures, c.in_ok-extend_from_slice.ensures.items) (simp append_assoc)
