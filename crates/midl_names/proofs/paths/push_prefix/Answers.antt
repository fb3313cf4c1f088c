use Rattle.std.proofs.Common.{rules, arith, IsTrue}
use Rattle.std.proofs.lemmas.Grind.{common_steps}
use Rattle.wr_base.specs.Paths.{is_identifier}
use Rattle.midl_names.proofs.Turns.{all_taken}
use Rattle.midl_names.proofs.paths.push_prefix.Goals as goal

pub loop-part-preserved : goal.loop-part-preserved
loop-part-preserved c = record {
  value = grind (arith, common_steps);
  identifiers = all_taken (λ t. t.now.text) c.args.space.now c.loop-part.part-index c.part-item.result c.part-item.is (search rules) (λ part. IsTrue (is_identifier part)) c.loop-part.invariant.identifiers c.push_part.ensures.identifier;
}
