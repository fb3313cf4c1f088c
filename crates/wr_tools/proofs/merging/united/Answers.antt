use Rattle.std.proofs.Common.{List}
use Rattle.wr_base.specs.declared.declaration.Declaration.{Declaration}
use Rattle.wr_tools.proofs.MergeLemmas.{all_stated, union_owed, union_writable}
use Rattle.wr_tools.proofs.merging.united.Goals as goal

pub returns-in_ok-image_told-in-Ok-clause-is : goal.returns-in_ok-image_told-in-Ok-clause-is
returns-in_ok-image_told-in-Ok-clause-is c = λ words held taken.
    let sets : List (List Declaration) = c.args.sets.items in
    let types : List Declaration = c.in-Ok.types in
    let merged = c.in-Ok.ensures.ok in
    let told = c.in_ok-image_told-in-Ok.ensures in
    let stated = all_stated held 0 words sets taken in
    union_owed c.args.out.now words held sets types c.in_ok-image_told-in-Ok.field-0.items taken merged told.strict
    (told.states (union_writable sets types merged (c.union_is_stated.ensures.stated sets types stated merged.union told.widths) (c.union_is_stated.ensures.no_guid sets types stated merged.union)))
