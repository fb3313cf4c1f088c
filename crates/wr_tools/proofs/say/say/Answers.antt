use Rattle.std.proofs.Common.{◌∙◌, ap, refl, inl, inr, Err}
use Rattle.wr_outside.specs.Files.{with_put}
use Rattle.wr_tools.specs.Said.{text_said}
use Rattle.wr_tools.proofs.SayLemmas.{first_part, second_part, part_of, rose_later}
use Rattle.wr_tools.proofs.say.say.Goals as goal

pub returns-in-Err-Failed-clause-says : goal.returns-in-Err-Failed-clause-says
returns-in-Err-Failed-clause-says g c =
    inr (inl (
      refl,
      c.in-Err-Failed.ensures.cause.rose (ap Err c.in-Err-Failed.field-0-is),
      first_part _ _ c.args.name.now (text_said c.args.said) (part_of _ _ _ _ c.as_bytes.ensures.value c.in-Err-Failed.ensures.err),
    ))

pub returns-in-Err-Memory-clause-says : goal.returns-in-Err-Memory-clause-says
returns-in-Err-Memory-clause-says g c =
    inr (inr (refl, first_part _ _ c.args.name.now (text_said c.args.said) (part_of _ _ _ _ c.as_bytes.ensures.value c.in-Err-Memory.ensures.err)))

pub returns-in-Err-Failed-put_all-clause-says : goal.returns-in-Err-Failed-put_all-clause-says
returns-in-Err-Failed-put_all-clause-says g c =
    inr (inl (
      refl,
      rose_later (g.E.Sink.faults c.args.err.now) (g.E.Sink.faults c.put_all.new.sink) (g.E.Sink.faults c.put_all-2.new.sink) c.in-Ok.ensures.cause.later
          (c.in-Err-Failed-put_all.ensures.cause.rose (ap Err c.in-Err-Failed-put_all.field-0-is)),
      second_part _ (g.E.Sink.told c.put_all.new.sink) _ c.args.name.now (text_said c.args.said)
          (c.in-Ok.ensures.ok ∙ ap (with_put (g.E.Sink.told c.args.err.now)) c.as_bytes.ensures.value)
          (part_of _ _ _ _ (c.as_bytes-2.ensures.value ∙ c.text.ensures) c.in-Err-Failed-put_all.ensures.err),
    ))

pub returns-in-Err-Memory-put_all-clause-says : goal.returns-in-Err-Memory-put_all-clause-says
returns-in-Err-Memory-put_all-clause-says g c =
    inr (inr (
      refl,
      second_part _ (g.E.Sink.told c.put_all.new.sink) _ c.args.name.now (text_said c.args.said)
          (c.in-Ok.ensures.ok ∙ ap (with_put (g.E.Sink.told c.args.err.now)) c.as_bytes.ensures.value)
          (part_of _ _ _ _ (c.as_bytes-2.ensures.value ∙ c.text.ensures) c.in-Err-Memory-put_all.ensures.err),
    ))
