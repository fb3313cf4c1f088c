use Rattle.std.proofs.Common.{◌≡◌, ◌∙◌, length, ap, sym}
use Rattle.md_schema.specs.declared.sizes.Sizes.{Sizes}
use Rattle.md_schema.specs.Widths.{count_of}
use Rattle.md_tables.specs.Faults.{list_fault}
use Rattle.md_tables.specs.Rows.{rows_of}
use Rattle.md_tables.proofs.WholeLemmas.{count_raw, fault_is, list_is}
use Rattle.md_tables.proofs.read.read_tables.Goals as goal

pub list_fault-requires-clause-counts : goal.list_fault-requires-clause-counts
list_fault-requires-clause-counts c = λ t.
    ap length (c.in_ok-view.ensures t) ∙ count_raw c.args.bytes.now t ∙ ap (λ (s : Sizes). count_of s t) (sym c.in-Ok.ensures.sizes)

pub list_fault-requires-clause-from : goal.list_fault-requires-clause-from
list_fault-requires-clause-from c = c.in-Ok.ensures.low

pub returns-in-Some-clause-refused : goal.returns-in-Some-clause-refused
returns-in-Some-clause-refused c =
    let found : c.list_fault.result ≡ list_fault c.args.bytes.now =
    list_is c.args.bytes.now c.in-Ok.header.sizes c.in-Ok.header.from (rows_of c.in_ok-view.view) c.list_fault.result c.in-Ok.ensures.sizes c.in-Ok.ensures.from c.in_ok-view.ensures c.list_fault.ensures in
    fault_is c.args.bytes.now c.list_fault.result c.in-Ok.ensures.ok found ∙ c.in-Some.is

pub returns-in-None-clause-ok : goal.returns-in-None-clause-ok
returns-in-None-clause-ok c =
    let found : c.list_fault.result ≡ list_fault c.args.bytes.now =
    list_is c.args.bytes.now c.in-Ok.header.sizes c.in-Ok.header.from (rows_of c.in_ok-view.view) c.list_fault.result c.in-Ok.ensures.sizes c.in-Ok.ensures.from c.in_ok-view.ensures c.list_fault.ensures in
    fault_is c.args.bytes.now c.list_fault.result c.in-Ok.ensures.ok found ∙ c.in-None.is
