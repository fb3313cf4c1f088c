use Rattle.std.proofs.Common.{sym, subst, Result}
use Rattle.md_schema.specs.Given.{Gives}
use Rattle.md_schema.specs.Streams.{Streams}
use Rattle.md_schema.specs.declared.faults.ImageFault.{ImageFault}
use Rattle.winmd_image.specs.Seen.{range_seen, found_seen, ranges_seen}
use Rattle.winmd_image.proofs.HeaderLemmas.{streams_by}
use Rattle.winmd_image.proofs.root.ranges_of.Goals as goal

pub returns : goal.returns
returns c =
    subst (λ (r : Result Streams ImageFault). Gives (λ x. ranges_seen x) c.ranges_among.result r)
    (sym (streams_by c.args.image.now (range_seen c.in_ok-root.root) (found_seen c.in_ok-found.found) c.in_ok-root.ensures.exact c.in_ok-found.ensures)) c.ranges_among.ensures
