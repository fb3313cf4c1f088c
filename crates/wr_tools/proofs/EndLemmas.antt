-- The ways in which a command ends, each as the record of its answer.
use Rattle.std.proofs.Common.{◌≡◌, ◌⊎◌, ℕ, ◌≤◌, true, false, List, [], take, Option, None, Some, refl, sym, ap, subst, ◌∙◌, inl, inr, append-nil, arith}
use Rattle.wr_outside.specs.Files.{Files, with_file, with_put, WritesSome}
use Rattle.wr_tools.specs.Says.{Says}
use Rattle.wr_tools.specs.Outside.{Outside, CountsRise}
use Rattle.wr_tools.specs.Reply.{Reply, refusal, done}
use Rattle.wr_tools.specs.Command.{Command, Owes}
use Rattle.wr_tools.specs.Lines.{IsLine, HasPart, ReadFaultLine, WriteFaultLine}
use Rattle.wr_tools.specs.Answers.{Answers, ErrFailed, WrittenInPart}

pub with_put-nil : (told : Option (List ℕ)) → told ≡ with_put told []
with_put-nil None = refl
with_put-nil (Some before) = ap Some (sym (append-nil before))

-- what the command accepts it replies 0 to
abbrev pub IsSettled : Command → Type 0
IsSettled command = (files : Files) (reply : Reply) → command.accepts files → Owes command (Some files) reply → reply.status ≡ 0

owed_done : (command : Command) (held : Option Files) (told : Files) (reply : Reply) → IsSettled command → held ≡ Some told → command.accepts told → Owes command held reply
    → reply.status ≡ 0
owed_done command held told reply settled e ok owed = settled told reply ok (subst (λ h. Owes command h reply) e owed)

module _ (command : Command) (before after : Outside) where
  -- err failed
  err_failed : ErrFailed command before after → after.out ≡ before.out → (after.held ≡ before.held) ⊎ WrittenInPart command before after
      → CountsRise before after → Answers command before after 5
  err_failed failed out stopped counts = record {
    reply = λ ok. let bad : true ≡ false = ok in cc;
    unmatched = λ e. absurd (omega arith);
    matched = λ e. inr (inl (refl, failed));
    accepted = λ files told ok stay. absurd (stay.err failed.rose);
    unwritten = λ low high. absurd (omega arith);
    read_fault = λ e. absurd (omega arith);
    write_fault = λ e. inr failed;
    memory = λ e. absurd (omega arith);
    partial = λ f. stopped;
    printed = λ f. inl out;
    silent = λ p. out;
    counts = counts;
    known = omega arith;
  }

  -- want of memory, with nothing on err or a part of the line
  pub no_memory : (after.err ≡ before.err) ⊎ HasPart command before after → after.out ≡ before.out
      → (after.held ≡ before.held) ⊎ WrittenInPart command before after → CountsRise before after → Answers command before after 6
  no_memory said out stopped counts = record {
    reply = λ ok. let bad : true ≡ false = ok in cc;
    unmatched = λ e. absurd (omega arith);
    matched = λ e. inr (inr refl);
    accepted = λ files told ok stay. inr refl;
    unwritten = λ low high. absurd (omega arith);
    read_fault = λ e. absurd (omega arith);
    write_fault = λ e. absurd (omega arith);
    memory = λ e. said;
    partial = λ f. stopped;
    printed = λ f. inl out;
    silent = λ p. out;
    counts = counts;
    known = omega arith;
  }

  -- a line was put on err: all of it, or a part of it where err failed or its memory was short
  pub after_line : (status answer : ℕ) (line : List ℕ) → (after.err ≡ with_put before.err line → Answers command before after status)
      → IsLine command before after line → after.out ≡ before.out → (after.held ≡ before.held) ⊎ WrittenInPart command before after
      → CountsRise before after → Says before.err after.err before.err_faults after.err_faults status line answer
      → Answers command before after answer
  after_line status answer line whole owed out stopped counts (inl (e, p)) = subst (Answers command before after) (sym e) (whole p)
  after_line status answer line whole owed out stopped counts (inr (inl (e, rose, part))) =
      subst (Answers command before after) (sym e)
      (err_failed (record { rose = rose; part = record { line = line; owed = owed; n = part.0; is = part.1 } }) out stopped counts)
  after_line status answer line whole owed out stopped counts (inr (inr (e, part))) =
      subst (Answers command before after) (sym e) (no_memory (inr (record { line = line; owed = owed; n = part.0; is = part.1 })) out stopped counts)

  -- a refusal that is owed, with its line on err
  refused : (status : ℕ) (line : List ℕ) → IsSettled command → 1 ≤ status → status ≤ 3
      → (status ≡ 2 → command.matched ≡ false) → (command.matched ≡ false → status ≡ 2)
      → Owes command before.held (refusal status line) → after.held ≡ before.held → after.out ≡ before.out → CountsRise before after
      → after.err ≡ with_put before.err line → Answers command before after status
  refused status line settled low high unmatched matched owed held out counts err = record {
    reply = λ ok. record {
      reply = refusal status line;
      owed = owed;
      shows = record { status_is = refl; held = held; out = out ∙ with_put-nil before.out; err = err };
    };
    unmatched = unmatched;
    matched = λ e. inl (matched e);
    accepted = λ files told ok stay.
        let zero_ : status ≡ 0 = owed_done command before.held files (refusal status line) settled told ok owed in
        absurd (omega (arith, zero_, low));
    unwritten = λ l h. held;
    read_fault = λ e. absurd (omega arith);
    write_fault = λ e. absurd (omega arith);
    memory = λ e. absurd (omega arith);
    partial = λ f. inl held;
    printed = λ f. inl out;
    silent = λ p. out;
    counts = counts;
    known = omega arith;
  }

  -- the same, however the sink did
  pub refuses : (status answer : ℕ) (line : List ℕ) → IsSettled command → 1 ≤ status → status ≤ 3
      → (status ≡ 2 → command.matched ≡ false) → (command.matched ≡ false → status ≡ 2)
      → Owes command before.held (refusal status line) → after.held ≡ before.held → after.out ≡ before.out → CountsRise before after
      → Says before.err after.err before.err_faults after.err_faults status line answer → Answers command before after answer
  refuses status answer line settled low high unmatched matched owed held out counts says =
      after_line status answer line (refused status line settled low high unmatched matched owed held out counts)
      (inl (record { reply = refusal status line; owed = owed; not_done = low; is = refl })) out (inl held) counts says

  read_failed : (line : List ℕ) → command.matched ≡ true → ReadFaultLine command before after line → after.held ≡ before.held → after.out ≡ before.out
      → CountsRise before after → after.err ≡ with_put before.err line → Answers command before after 4
  read_failed line matched cause held out counts err = record {
    reply = λ ok. let bad : true ≡ false = ok in cc;
    unmatched = λ e. absurd (omega arith);
    matched = λ e. let bad : true ≡ false = sym matched ∙ e in cc;
    accepted = λ files told ok stay. absurd (stay.store cause.rose);
    unwritten = λ l h. held;
    read_fault = λ e. record { line = line; cause = cause; is = err };
    write_fault = λ e. absurd (omega arith);
    memory = λ e. absurd (omega arith);
    partial = λ f. inl held;
    printed = λ f. inl out;
    silent = λ p. out;
    counts = counts;
    known = omega arith;
  }

  -- a read failed, and its line was put on err
  pub read_fails : (answer : ℕ) (line : List ℕ) → command.matched ≡ true → ReadFaultLine command before after line → after.held ≡ before.held
      → after.out ≡ before.out → CountsRise before after
      → Says before.err after.err before.err_faults after.err_faults 4 line answer → Answers command before after answer
  read_fails answer line matched cause held out counts says =
      after_line 4 answer line (read_failed line matched cause held out counts) (inr (inl cause)) out (inl held) counts says

  write_failed : (line : List ℕ) → command.matched ≡ true → WriteFaultLine command before after line
      → (after.held ≡ before.held) ⊎ WrittenInPart command before after → after.out ≡ before.out
      → CountsRise before after → after.err ≡ with_put before.err line → Answers command before after 5
  write_failed line matched cause stopped out counts err = record {
    reply = λ ok. let bad : true ≡ false = ok in cc;
    unmatched = λ e. absurd (omega arith);
    matched = λ e. let bad : true ≡ false = sym matched ∙ e in cc;
    accepted = λ files told ok stay. absurd (stay.store cause.rose);
    unwritten = λ l h. absurd (omega arith);
    read_fault = λ e. absurd (omega arith);
    write_fault = λ e. inl (record { line = line; cause = inl cause; is = err });
    memory = λ e. absurd (omega arith);
    partial = λ f. stopped;
    printed = λ f. inl out;
    silent = λ p. out;
    counts = counts;
    known = omega arith;
  }

  -- a write failed, and its line was put on err
  pub write_fails : (answer : ℕ) (line : List ℕ) → command.matched ≡ true → WriteFaultLine command before after line
      → (after.held ≡ before.held) ⊎ WrittenInPart command before after → after.out ≡ before.out → CountsRise before after
      → Says before.err after.err before.err_faults after.err_faults 5 line answer → Answers command before after answer
  write_fails answer line matched cause stopped out counts says =
      after_line 5 answer line (write_failed line matched cause stopped out counts) (inr (inr (inl cause))) out stopped counts says

  -- one file was written, and nothing said
  pub finished : (name bytes : List ℕ) → command.matched ≡ true → Owes command before.held (done name bytes)
      → after.held ≡ with_file before.held name bytes → after.out ≡ before.out → after.err ≡ before.err → CountsRise before after
      → Answers command before after 0
  finished name bytes matched owed held out err counts = record {
    reply = λ ok. record {
      reply = done name bytes;
      owed = owed;
      shows = record { status_is = refl; held = held; out = out ∙ with_put-nil before.out; err = err ∙ with_put-nil before.err };
    };
    unmatched = λ e. absurd (omega arith);
    matched = λ e. let bad : true ≡ false = sym matched ∙ e in cc;
    accepted = λ files told ok stay. inl refl;
    unwritten = λ l h. absurd (omega arith);
    read_fault = λ e. absurd (omega arith);
    write_fault = λ e. absurd (omega arith);
    memory = λ e. absurd (omega arith);
    partial = λ f. let bad : true ≡ false = sym f in cc;
    printed = λ f. let bad : true ≡ false = sym f in cc;
    silent = λ p. out;
    counts = counts;
    known = omega arith;
  }

  -- one file as before, or written in part
  pub stopped : (mid : Option Files) (name bytes : List ℕ) → Owes command before.held (done name bytes) → mid ≡ before.held
      → WritesSome mid after.held name bytes → (after.held ≡ before.held) ⊎ WrittenInPart command before after
  stopped mid name bytes owed e (inl same) = inl (same ∙ e)
  stopped mid name bytes owed e (inr (n, is)) = inr (record {
    reply = done name bytes;
    owed = owed;
    unrefused = refl;
    stops = record { finished = []; rest = []; name = name; bytes = bytes; n = n; parts = refl; is = is ∙ ap (λ h. with_file h name (take n bytes)) e };
  })
