use Rattle.std.proofs.Common.{ap, sym, ◌∙◌, rules}
use Rattle.std.specs.Option.{option_copied_mut}
use Rattle.wr_outside.proofs.NamedLemmas.{files_of-appended, files_of-kept, files_of-made, on_err}
use Rattle.wr_outside.proofs.named_files.NamedFiles.append.Goals as goal

pub returns-in_err-extend_from_slice-in-Some-clause-err : goal.returns-in_err-extend_from_slice-in-Some-clause-err
returns-in_err-extend_from_slice-in-Some-clause-err c =
    let found = ap option_copied_mut (sym c.in-Some.is) ∙ c.get_mut.ensures.value in
    on_err _
    (files_of-kept c.args.name.now c.args.self.now c.self.inside.files (c.get_mut.follows.lender c.extend_from_slice.new.self) c.in-Some.content.now c.extend_from_slice.new.self
    c.self.view_is found c.in_err-extend_from_slice-in-Some.ensures.items ((c.get_mut.follows.holds c.extend_from_slice.new.self).3 (search rules)))

pub returns-in_ok-extend_from_slice-in-Some-clause-ok : goal.returns-in_ok-extend_from_slice-in-Some-clause-ok
returns-in_ok-extend_from_slice-in-Some-clause-ok c =
    let found = ap option_copied_mut (sym c.in-Some.is) ∙ c.get_mut.ensures.value in
    files_of-appended c.args.name.now c.args.self.now c.self.inside.files (c.get_mut.follows.lender c.extend_from_slice.new.self) c.in-Some.content.now c.extend_from_slice.new.self
    c.args.bytes.now c.self.view_is found c.in_ok-extend_from_slice-in-Some.ensures.items ((c.get_mut.follows.holds c.extend_from_slice.new.self).3 (search rules))

pub returns-in_ok-insert-in-None-clause-ok : goal.returns-in_ok-insert-in-None-clause-ok
returns-in_ok-insert-in-None-clause-ok c =
    c.in_ok-insert-in-None.ensures.ok
    ∙ files_of-made c.args.name.now c.args.self.now c.self.inside.files c.get_mut.follows.lender-at-none c.args.bytes.now c.in_ok-content-in-None.content.items
    c.self.view_is (ap option_copied_mut (sym c.in-None.is) ∙ c.get_mut.ensures.value) c.get_mut.follows.holds-at-none c.in_ok-content-in-None.ensures.items
