use Rattle.std.proofs.Common.{map, ap, ◌∙◌}
use Rattle.std.specs.Prelude.{Vec}
use Rattle.std.specs.declared.alloc.Global.{Global}
use Rattle.winmd_uses.specs.Makers.{maker_of}
use Rattle.winmd_uses.specs.declared.makers.Maker.{Maker}
use Rattle.winmd_names.proofs.Results.{if_ok_then}
use Rattle.winmd_names.proofs.whole.with_makers.Goals as goal

pub returns : goal.returns
returns c = if_ok_then c.with_numbers.result _ _ (λ s e. (e.0, e.1, ap (λ (v : Vec Maker Global). map maker_of v.items) e.2 ∙ c.in_ok-makers.ensures.makers)) c.with_numbers.ensures
