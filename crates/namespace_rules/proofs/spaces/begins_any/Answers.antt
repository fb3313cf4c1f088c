use Rattle.std.proofs.Common.{List, String, Some, None, slice_get, string_bytes, ap, ◌∙◌}
use Rattle.std.specs.declared.alloc.Global.{Global}
use Rattle.namespace_rules.proofs.FrontLaws.{tests_front, first_tells}
use Rattle.namespace_rules.proofs.spaces.begins_any.Goals as goal

pub returns-in-None : goal.returns-in-None
returns-in-None c text e = first_tells text c.args.names.now c.args.front.now e c.range.result (c.range.ensures.in_range tt) None (ap (λ (ks : List (String Global)). slice_get ks 0) c.in-None.ensures.steps.0)

pub returns-in-Some : goal.returns-in-Some
returns-in-Some c text e =
    tests_front c.starts_with.result text (string_bytes c.in-Some.name.now) c.as_bytes.result.now c.as_bytes-in-Some.result.now c.starts_with.ensures.value
    (c.as_bytes.ensures.value ∙ c.as_str.ensures.value) (c.as_bytes-in-Some.ensures.value ∙ c.as_str-in-Some.ensures.value ∙ e)
    ∙ first_tells text c.args.names.now c.args.front.now e c.range.result (c.range.ensures.in_range tt) (Some c.in-Some.name.now) (ap (λ (ks : List (String Global)). slice_get ks 0) c.in-Some.ensures.steps)
