use Rattle.std.proofs.Common.{◌≡◌, ◌++◌, true, false, subst, sym, inl, ◌∙◌, ap, refl, Err, string_bytes, arith, List, ℕ}
use Rattle.winrt_words.specs.Words.{Named, command_seen}
use Rattle.wr_outside.specs.Files.{with_file, WritesSome}
use Rattle.wr_tools.specs.declared.said.Said.{Said}
use Rattle.wr_tools.specs.Said.{status_said, text_said}
use Rattle.wr_tools.specs.Lines.{read_fault, write_fault}
use Rattle.wr_tools.specs.Outcomes.{OutcomeIs, IsReadFault, RefusalOwed, ReadFaultOwed}
use Rattle.wr_tools.specs.Reply.{done}
use Rattle.wr_tools.specs.Says.{Says}
use Rattle.wr_tools.specs.Words.{out_of}
use Rattle.wr_tools.proofs.CommandLemmas.{is_command, settled, writes_out}
use Rattle.wr_tools.proofs.SayLemmas.{rose_later, grows}
use Rattle.wr_tools.proofs.EndLemmas.{refuses, read_fails, write_fails, finished, stopped, no_memory}
use Rattle.wr_tools.proofs.run.run.Goals as goal

pub returns-in-Ok-Refused : goal.returns-in-Ok-Refused
returns-in-Ok-Refused g c =
    let command : Named = command_seen c.args.command.now in
    let said : Said = c.in-Ok-Refused.said in
    let line : List ℕ = string_bytes c.in-Ok-Refused.name ++ text_said said in
    let owed : RefusalOwed command (g.S.Store.held c.args.store.now) (status_said said) line =
    subst (OutcomeIs command (g.S.Store.held c.args.store.now)) c.in-Ok-Refused.field-0-is c.in-Ok-Refused.ensures.is in
    let whole : c.as_str.result.now ++ text_said said ≡ line = ap (λ t. t ++ text_said said) c.as_str.ensures.value in
    refuses _ _ _ (status_said said) c.say.result line (settled command) owed.low owed.high (λ e. absurd (owed.matched e)) (λ e. let bad : true ≡ false = sym (is_command command) ∙ e in cc)
    owed.owed c.in-Ok-Refused.ensures.kept refl
    (record { store = c.in-Ok-Refused.ensures.later; out = omega arith; err = c.say.ensures.later })
    (subst (λ l. Says (g.E.Sink.told c.args.err.now) (g.E.Sink.told c.say.new.err) (g.E.Sink.faults c.args.err.now) (g.E.Sink.faults c.say.new.err) (status_said said) l c.say.result) whole c.say.ensures.says)

pub returns-in-Ok-ReadFault : goal.returns-in-Ok-ReadFault
returns-in-Ok-ReadFault g c =
    let command : Named = command_seen c.args.command.now in
    let line : List ℕ = string_bytes c.in-Ok-ReadFault.name ++ read_fault in
    let owed : ReadFaultOwed command (g.S.Store.held c.args.store.now) line =
    subst (OutcomeIs command (g.S.Store.held c.args.store.now)) c.in-Ok-ReadFault.field-0-is c.in-Ok-ReadFault.ensures.is in
    let whole : c.as_str-in-Ok-ReadFault.result.now ++ read_fault ≡ line = ap (λ t. t ++ read_fault) c.as_str-in-Ok-ReadFault.ensures.value in
    read_fails _ _ _ c.say-in-Ok-ReadFault.result line (is_command command)
    (record {
      rose = c.in-Ok-ReadFault.ensures.rose (subst IsReadFault (sym c.in-Ok-ReadFault.field-0-is) tt);
      name = owed.name;
      awaited = owed.awaited;
      is = owed.is;
    })
    c.in-Ok-ReadFault.ensures.kept refl
    (record { store = c.in-Ok-ReadFault.ensures.later; out = omega arith; err = c.say-in-Ok-ReadFault.ensures.later })
    (subst (λ l. Says (g.E.Sink.told c.args.err.now) (g.E.Sink.told c.say-in-Ok-ReadFault.new.err) (g.E.Sink.faults c.args.err.now) (g.E.Sink.faults c.say-in-Ok-ReadFault.new.err) 4 l c.say-in-Ok-ReadFault.result) whole c.say-in-Ok-ReadFault.ensures.says)

pub returns-in-Ok : goal.returns-in-Ok
returns-in-Ok g c =
    let command : Named = command_seen c.args.command.now in
    let mid = g.S.Store.held c.outcome_of.new.store in
    let bytes : List ℕ = c.in-Ok-Image.bytes.items in
    let owed = subst (OutcomeIs command (g.S.Store.held c.args.store.now)) c.in-Ok-Image.field-0-is c.in-Ok-Image.ensures.is in
    finished _ _ _ (out_of command) bytes (is_command command) owed
    (c.in-Ok.ensures.ok ∙ ap (λ n. with_file mid n c.deref.result.now) c.out_of.ensures ∙ ap (λ b. with_file mid (out_of command) b) c.deref.ensures.value
    ∙ ap (λ h. with_file h (out_of command) bytes) c.in-Ok-Image.ensures.kept)
    refl refl
    (record {
      store = grows _ (g.S.Store.faults c.outcome_of.new.store) _ c.in-Ok-Image.ensures.later c.in-Ok.ensures.cause.later;
      out = omega arith;
      err = omega arith;
    })

pub returns-in-Err-Failed : goal.returns-in-Err-Failed
returns-in-Err-Failed g c =
    let command : Named = command_seen c.args.command.now in
    let mid = g.S.Store.held c.outcome_of.new.store in
    let after = g.S.Store.held c.write_whole.new.store in
    let bytes : List ℕ = c.in-Ok-Image.bytes.items in
    let owed = subst (OutcomeIs command (g.S.Store.held c.args.store.now)) c.in-Ok-Image.field-0-is c.in-Ok-Image.ensures.is in
    let line : List ℕ = out_of command ++ write_fault in
    let whole : c.out_of-in-Err-Failed.result.now ++ write_fault ≡ line = ap (λ t. t ++ write_fault) c.out_of-in-Err-Failed.ensures in
    write_fails _ _ _ c.say-in-Err-Failed.result line (is_command command)
    (record {
      rose = rose_later (g.S.Store.faults c.args.store.now) (g.S.Store.faults c.outcome_of.new.store) (g.S.Store.faults c.write_whole.new.store)
          c.in-Ok-Image.ensures.later (c.in-Err-Failed.ensures.cause.rose (ap Err c.in-Err-Failed.field-0-is));
      reply = done (out_of command) bytes;
      owed = owed;
      unrefused = refl;
      name = out_of command;
      written = writes_out command;
      is = refl;
    })
    (stopped _ _ _ mid (out_of command) bytes owed c.in-Ok-Image.ensures.kept
    (subst (λ n. WritesSome mid after n bytes) c.out_of.ensures (subst (WritesSome mid after c.out_of.result.now) c.deref.ensures.value c.in-Err-Failed.ensures.err)))
    refl
    (record {
      store = grows _ (g.S.Store.faults c.outcome_of.new.store) _ c.in-Ok-Image.ensures.later c.in-Err-Failed.ensures.cause.later;
      out = omega arith;
      err = c.say-in-Err-Failed.ensures.later;
    })
    (subst (λ l. Says (g.E.Sink.told c.args.err.now) (g.E.Sink.told c.say-in-Err-Failed.new.err) (g.E.Sink.faults c.args.err.now) (g.E.Sink.faults c.say-in-Err-Failed.new.err) 5 l c.say-in-Err-Failed.result) whole c.say-in-Err-Failed.ensures.says)

pub returns : goal.returns
returns g c =
    let command : Named = command_seen c.args.command.now in
    let mid = g.S.Store.held c.outcome_of.new.store in
    let after = g.S.Store.held c.write_whole.new.store in
    let bytes : List ℕ = c.in-Ok-Image.bytes.items in
    let owed = subst (OutcomeIs command (g.S.Store.held c.args.store.now)) c.in-Ok-Image.field-0-is c.in-Ok-Image.ensures.is in
    no_memory _ _ _ (inl refl) refl
    (stopped _ _ _ mid (out_of command) bytes owed c.in-Ok-Image.ensures.kept
    (subst (λ n. WritesSome mid after n bytes) c.out_of.ensures (subst (WritesSome mid after c.out_of.result.now) c.deref.ensures.value c.in-Err-Memory.ensures.err)))
    (record {
      store = grows _ (g.S.Store.faults c.outcome_of.new.store) _ c.in-Ok-Image.ensures.later c.in-Err-Memory.ensures.cause.later;
      out = omega arith;
      err = omega arith;
    })
