use Rattle.std.proofs.Common.{◌≡◌, ◌-◌, map}
use Rattle.sig_blobs.specs.Reading.{several}
use Rattle.sig_blobs.specs.Several.{behind}
use Rattle.sig_blobs.specs.Signatures.{param_in}
use Rattle.sig_blobs.specs.Tokens.{meaning_in}
use Rattle.wr_base.specs.Trees.{param_tree}
use Rattle.sig_blobs.proofs.methods.params_in.Given as goal

abbrev pub invariant-loop-i : goal.invariant-loop-i
invariant-loop-i l = behind (map param_tree l.list) (several (param_in (meaning_in l.names)) (l.count - l.i) l.rest) ≡ several (param_in (meaning_in l.names)) l.count l.fn.bytes
