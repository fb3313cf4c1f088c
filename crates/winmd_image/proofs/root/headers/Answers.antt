use Rattle.std.proofs.lemmas.Result.{err_from_is_err_and}
use Rattle.std.proofs.Common.{◌≡◌, ◌∙◌, ℕ, ◌+◌, ◌-◌, ◌*◌, ◌/◌, length, ap, arith}
use Rattle.winmd_image.specs.Found.{Found}
use Rattle.winmd_image.specs.Noting.{noted}
use Rattle.winmd_image.specs.Root as root_as
use Rattle.winmd_image.specs.Seen.{range_seen, stream_seen, found_seen}
use Rattle.winmd_image.proofs.HeaderLemmas.{joined, nothing_found, from_nothing, header_more, header_fault}
use Rattle.winmd_image.proofs.root.headers.Goals as goal

pub loop-init : goal.loop-init
loop-init c =
    let all : c.args.count - 0 ≡ c.args.count = omega arith in (
      omega arith,
      ap (λ (n : ℕ). joined nothing_found (root_as.headers c.args.image.now (range_seen c.args.metadata.now) n c.args.first)) all
          ∙ from_nothing (root_as.headers c.args.image.now (range_seen c.args.metadata.now) c.args.count c.args.first),
    )

pub returns-in_err-stream : goal.returns-in_err-stream
returns-in_err-stream c =
    let p = err_from_is_err_and c.from_residual.result c.from_residual.ensures.1 in
    rw (p.1, p.2) (header_fault c.args.image.now (range_seen c.args.metadata.now) c.args.count c.loop.counter c.loop.at (found_seen c.loop.found) _ _ c.loop-test.true
    c.in_err-stream.ensures.exact c.loop.invariant.1)

pub loop-preserved : goal.loop-preserved
loop-preserved c =
    let long = length c.in_ok-stream.stream.name.now in
    let next : c.loop.at + (8 + (long / 4 + 1) * 4) ≡ root_as.behind_header c.loop.at (stream_seen c.in_ok-stream.stream) = omega arith in (
      omega (arith, c.in_ok-stream.ensures.short, c.loop.invariant.0),
      ap (λ (f : Found). joined f (root_as.headers c.args.image.now (range_seen c.args.metadata.now) (c.args.count - (c.loop.counter + 1)) (c.loop.at + (8 + (long / 4 + 1) * 4)))) c.noted-found.ensures
          ∙ ap (λ (n : ℕ). joined (noted (found_seen c.loop.found) (stream_seen c.in_ok-stream.stream)) (root_as.headers c.args.image.now (range_seen c.args.metadata.now) (c.args.count - (c.loop.counter + 1)) n)) next
          ∙ header_more c.args.image.now (range_seen c.args.metadata.now) c.args.count c.loop.counter c.loop.at (found_seen c.loop.found) (stream_seen c.in_ok-stream.stream) _ c.loop-test.true
          c.in_ok-stream.ensures.exact c.loop.invariant.1,
    )
