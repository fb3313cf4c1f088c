use Rattle.std.proofs.Common.{◌∙◌}
use Rattle.midl_tree.specs.Views.{source_view}
use Rattle.midl_parse.proofs.Entering.{left_within, found_is, fault_is, found_only, found_first, refused_only, refused_first, refused_is}
use Rattle.midl_parse.proofs.files.parse.Goals as goal

pub returns-in-Ok-clause-ok : goal.returns-in-Ok-clause-ok
returns-in-Ok-clause-ok c = found_is c.args.file c.args.tokens.now c.deref.result.now (source_view c.in-Ok.parsed) (c.deref.ensures.value ∙ c.in_ok-terminals.ensures) c.in-Ok.ensures.found

pub returns-in-Ok-clause-only : goal.returns-in-Ok-clause-only
returns-in-Ok-clause-only c =
    found_only c.args.file c.args.tokens.now c.in-Ok.parsed (found_is c.args.file c.args.tokens.now c.deref.result.now (source_view c.in-Ok.parsed) (c.deref.ensures.value ∙ c.in_ok-terminals.ensures) c.in-Ok.ensures.found)

pub returns-in-Ok-clause-first : goal.returns-in-Ok-clause-first
returns-in-Ok-clause-first c =
    found_first c.args.file c.args.tokens.now c.in-Ok.parsed (found_is c.args.file c.args.tokens.now c.deref.result.now (source_view c.in-Ok.parsed) (c.deref.ensures.value ∙ c.in_ok-terminals.ensures) c.in-Ok.ensures.found)

pub refusal-requires : goal.refusal-requires
refusal-requires c =
    let fault = rw c.in-Err-Fault.field-0-is at c.in-Err-Fault.ensures.fault in
    left_within c.args.tokens.now c.in-Err-Fault.code c.in-Err-Fault.left (fault_is c.args.file c.args.tokens.now c.deref.result.now c.in-Err-Fault.code c.in-Err-Fault.left (c.deref.ensures.value ∙ c.in_ok-terminals.ensures) fault)

pub returns-clause-only : goal.returns-clause-only
returns-clause-only c =
    let fault = rw c.in-Err-Fault.field-0-is at c.in-Err-Fault.ensures.fault in
    refused_only c.args.file c.args.tokens.now c.in-Err-Fault.code c.in-Err-Fault.left (fault_is c.args.file c.args.tokens.now c.deref.result.now c.in-Err-Fault.code c.in-Err-Fault.left (c.deref.ensures.value ∙ c.in_ok-terminals.ensures) fault)

pub returns-clause-refused : goal.returns-clause-refused
returns-clause-refused c =
    let fault = rw c.in-Err-Fault.field-0-is at c.in-Err-Fault.ensures.fault in
    refused_is c.args.file c.args.tokens.now c.in-Err-Fault.code c.in-Err-Fault.left _ (fault_is c.args.file c.args.tokens.now c.deref.result.now c.in-Err-Fault.code c.in-Err-Fault.left (c.deref.ensures.value ∙ c.in_ok-terminals.ensures) fault) c.in_ok-refusal-in-Err-Fault.ensures

pub returns-clause-first : goal.returns-clause-first
returns-clause-first c =
    let fault = rw c.in-Err-Fault.field-0-is at c.in-Err-Fault.ensures.fault in
    refused_first c.args.file c.args.tokens.now c.in-Err-Fault.code c.in-Err-Fault.left _ (fault_is c.args.file c.args.tokens.now c.deref.result.now c.in-Err-Fault.code c.in-Err-Fault.left (c.deref.ensures.value ∙ c.in_ok-terminals.ensures) fault) c.in_ok-refusal-in-Err-Fault.ensures
