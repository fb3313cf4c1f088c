use Rattle.std.proofs.Common.{rules}
use Rattle.namespace_rules.proofs.SpaceLaws.{same_spaces}
use Rattle.namespace_rules.proofs.spaces.same_space.Goals as goal

pub returns : goal.returns
returns c = λ h. same_spaces c.args.name.now c.args.other.now c.parts.result.0.now c.parts-2.result.0.now c.parts.result.1.now c.parts-2.result.1.now
    c.parts.ensures.joined c.parts-2.ensures.joined c.parts.ensures.name c.parts-2.ensures.name (search rules)
