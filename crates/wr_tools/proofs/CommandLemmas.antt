-- What holds of each command.
use Rattle.std.proofs.Common.{◌≡◌, true, arith, refl}
use Rattle.std.specs.List.{Contains}
use Rattle.winrt_words.specs.Words.{Named, midl, mdmerge}
use Rattle.wr_tools.specs.Words.{command_for, out_of}
use Rattle.wr_tools.proofs.EndLemmas.{IsSettled}
use Rattle.wr_tools.proofs.MergeLemmas.{merge_settled}
use Rattle.wr_tools.proofs.SetLemmas.{midl_settled}

pub is_command : (command : Named) → (command_for command).matched ≡ true
is_command (midl names) = refl
is_command (mdmerge names) = refl

pub settled : (command : Named) → IsSettled (command_for command)
settled (midl names) = midl_settled names.0 names.1
settled (mdmerge names) = merge_settled names.0 names.1

pub writes_out : (command : Named) → Contains (command_for command).writes (out_of command)
writes_out (midl names) = (0, omega arith, refl)
writes_out (mdmerge names) = (0, omega arith, refl)
