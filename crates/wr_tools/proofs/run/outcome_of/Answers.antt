use Rattle.std.proofs.Common.{List, String, IfOk, map, string_bytes, subst, sym}
use Rattle.std.specs.declared.alloc.Global.{Global}
use Rattle.winrt_words.specs.Words.{command_seen, midl}
use Rattle.winrt_words.specs.declared.command.Command.{Command}
use Rattle.wr_tools.specs.Outcomes.{OutcomeIs}
use Rattle.wr_tools.proofs.run.outcome_of.Goals as goal

pub returns-in-Midl-clause-is : goal.returns-in-Midl-clause-is
returns-in-Midl-clause-is g c =
    let held = g.S.Store.held c.args.store.now in
    let out = string_bytes c.in-Midl.given.out in
    subst (λ (command : Command). IfOk c.compiled.result (OutcomeIs (command_seen command) held)) (sym c.in-Midl.is)
    (subst (λ (files : List (String Global)). IfOk c.compiled.result (OutcomeIs (midl (out, map string_bytes files)) held)) c.deref.ensures.value (c.compiled.ensures.is out))
