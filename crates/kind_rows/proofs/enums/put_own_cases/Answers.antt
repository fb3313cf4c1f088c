use Rattle.std.proofs.Common.{◌∙◌}
use Rattle.sig_blobs.specs.Writing.{field_bytes}
use Rattle.kind_rows.proofs.enums.put_own_cases.Goals as goal

pub put_cases-requires : goal.put_cases-requires
put_cases-requires g c = c.deref.ensures.value ∙ c.in_ok-spell_field.ensures ∙ (λ i. field_bytes (c.tokens.ensures i) (c.in_ok-own.ensures i))
