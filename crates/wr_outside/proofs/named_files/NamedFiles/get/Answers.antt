use Rattle.std.proofs.Common.{ap, sym, ◌∙◌, Some}
use Rattle.std.specs.Option.{option_copied}
use Rattle.wr_outside.proofs.NamedLemmas.{get-seen}
use Rattle.wr_outside.proofs.named_files.NamedFiles.get.Goals as goal

pub returns-in-Some : goal.returns-in-Some
returns-in-Some c =
    ap Some c.as_slice.ensures.value
    ∙ get-seen c.args.name.now c.args.self.now c.self.inside.files _ c.self.view_is (ap option_copied (sym c.in-Some.is) ∙ c.get.ensures.value)

pub returns-in-None : goal.returns-in-None
returns-in-None c = get-seen c.args.name.now c.args.self.now c.self.inside.files _ c.self.view_is (ap option_copied (sym c.in-None.is) ∙ c.get.ensures.value)
