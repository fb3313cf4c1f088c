use Rattle.std.proofs.Common.{refl, subst, sym, string_bytes, append-nil}
use Rattle.source_set.specs.Events.{too_many, missing, too_long}
use Rattle.source_set.specs.Lines.{IsRefusalLine}
use Rattle.source_set.specs.Stops.{StopIs}
use Rattle.winrt_words.specs.Words.{midl}
use Rattle.wr_tools.specs.Outcomes.{RefusalOwed}
use Rattle.wr_tools.proofs.OwedLemmas.{event_owed, faulted_owed, read_owed}
use Rattle.wr_tools.proofs.outcome.stopped.Goals as goal

pub returns-in-TooMany-clause-is : goal.returns-in-TooMany-clause-is
returns-in-TooMany-clause-is c = λ out words held s. event_owed out words held (string_bytes c.in-TooMany.name) _ too_many (subst (StopIs words held) c.in-TooMany.is s) (λ files. refl)

pub returns-in-Missing-clause-is : goal.returns-in-Missing-clause-is
returns-in-Missing-clause-is c = λ out words held s. event_owed out words held (string_bytes c.in-Missing.name) _ missing (subst (StopIs words held) c.in-Missing.is s) (λ files. refl)

pub returns-in-TooLong-clause-is : goal.returns-in-TooLong-clause-is
returns-in-TooLong-clause-is c = λ out words held s. event_owed out words held (string_bytes c.in-TooLong.name) _ too_long (subst (StopIs words held) c.in-TooLong.is s) (λ files. refl)

pub returns-in-ReadFault-clause-is : goal.returns-in-ReadFault-clause-is
returns-in-ReadFault-clause-is c = λ out words held s. read_owed out words held (string_bytes c.in-ReadFault.name) _ (subst (StopIs words held) c.in-ReadFault.is s) refl

pub returns-in_ok-line-in-Refused-clause-is : goal.returns-in_ok-line-in-Refused-clause-is
returns-in_ok-line-in-Refused-clause-is c = λ out words held s.
    let text = c.in-Refused.text in
    let line = string_bytes c.in_ok-line-in-Refused.line in
    subst (RefusalOwed (midl (out, words)) held 1) (sym (append-nil line))
    (faulted_owed out words held (string_bytes text.name) text.bytes.items line c.in-Refused.refusal (subst (StopIs words held) c.in-Refused.is s)
    (subst (λ n. IsRefusalLine n text.bytes.items c.in-Refused.refusal line) c.as_str.ensures.value
    (subst (λ b. IsRefusalLine c.as_str.result.now b c.in-Refused.refusal line) c.deref.ensures.value c.in_ok-line-in-Refused.ensures)))
