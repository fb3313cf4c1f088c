-- Each call adds its part at the end.
use Rattle.std.proofs.Common.{append_assoc}
use Rattle.winmd_image.specs.Spelled.{root_head}
use Rattle.winmd_image.proofs.stream_headers.put_root.Goals as goal

pub returns : goal.returns
unfolding root_head
returns c = rw (c.in_ok-put_numbers-3.ensures, c.in_ok-extend_from_slice.ensures.items, c.in_ok-put_numbers-2.ensures, c.in_ok-put_numbers.ensures, c.in_ok-put_number.ensures) (simp append_assoc)
