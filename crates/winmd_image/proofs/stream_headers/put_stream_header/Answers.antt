-- Each call adds its part at the end.
use Rattle.std.proofs.Common.{append_assoc}
use Rattle.winmd_image.proofs.stream_headers.put_stream_header.Goals as goal

pub returns : goal.returns
returns c = rw (c.in_ok-extend_from_slice.ensures.items, c.in_ok-put_number-2.ensures, c.in_ok-put_number.ensures) (simp append_assoc)
