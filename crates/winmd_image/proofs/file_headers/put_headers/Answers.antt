-- Each call adds its part at the end.
use Rattle.std.proofs.Common.{append_assoc}
use Rattle.winmd_image.proofs.file_headers.put_headers.Goals as goal

pub returns : goal.returns
returns c = rw (c.in_ok-put_cli_header.ensures, c.in_ok-put_zeros.ensures, c.in_ok-put_section_header.ensures, c.in_ok-put_optional_header.ensures, c.in_ok-put_file_header.ensures, c.in_ok-put_dos_header.ensures) (simp append_assoc)
