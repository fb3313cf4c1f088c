use Rattle.std.proofs.Common.{◌≡◌, ◌++◌, take, string_bytes, IsTrue}
use Rattle.std.specs.List.{All}
use Rattle.wr_base.specs.Paths.{is_identifier}
use Rattle.midl_names.specs.Items.{prefix}
use Rattle.midl_names.specs.Views.{parts_of}
use Rattle.midl_names.proofs.paths.push_prefix.Given as goal

abbrev pub invariant-loop-part : goal.invariant-loop-part
invariant-loop-part l = record {
  value : string_bytes l.text ≡ string_bytes l.fn.text ++ prefix (parts_of (take l.part-index l.space));
  identifiers : All (λ part. IsTrue (is_identifier part)) (parts_of (take l.part-index l.space));
}
