-- Each call adds its part at the end.
use Rattle.std.proofs.Common.{append_assoc}
use Rattle.winmd_image.specs.Spelled.{cli_header}
use Rattle.winmd_image.proofs.file_headers.put_cli_header.Goals as goal

pub returns : goal.returns
unfolding cli_header
returns c = rw (c.in_ok-put_zeros.ensures, c.in_ok-put_numbers-2.ensures, c.in_ok-put_numbers.ensures, c.in_ok-put_number.ensures) (simp append_assoc)
