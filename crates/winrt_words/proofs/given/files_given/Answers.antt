use Rattle.std.proofs.Common.{map, string_bytes}
use Rattle.winrt_words.specs.Words.{names_seen}
use Rattle.winrt_words.proofs.FormLemmas.{ok_as, parsed, parsed_taken, failed, failed_taken}
use Rattle.winrt_words.proofs.given.files_given.Goals as goal

pub returns-in-Ok-clause-names : goal.returns-in-Ok-clause-names
returns-in-Ok-clause-names c =
    ok_as c.given_in.result (λ given e.
    parsed c.args.name.now _ (map string_bytes c.args.words.now) c.in_ok-takes_files.ensures.form c.in-Ok.matches _
    c.in-Ok.ensures.kinds c.in-Ok.ensures.matches e) c.given_in.ensures

pub returns-in-Ok-clause-taken : goal.returns-in-Ok-clause-taken
returns-in-Ok-clause-taken c =
    ok_as c.given_in.result (λ given e.
    parsed_taken c.args.name.now _ (map string_bytes c.args.words.now) c.in_ok-takes_files.ensures.form names_seen c.in-Ok.matches given
    c.in-Ok.ensures.kinds (c.in_ok-takes_files.ensures.both c.in-Ok.matches c.in-Ok.ensures.parsed) e) c.given_in.ensures

pub returns-in-Err-clause-names : goal.returns-in-Err-clause-names
returns-in-Err-clause-names c =
    failed c.args.name.now _ (map string_bytes c.args.words.now) c.in_ok-takes_files.ensures.form names_seen c.in-Err.error c.untaken.result
    c.in-Err.ensures.kinds c.untaken.ensures.none c.untaken.ensures.memory

pub returns-in-Err-clause-taken : goal.returns-in-Err-clause-taken
returns-in-Err-clause-taken c =
    failed_taken c.args.name.now _ (map string_bytes c.args.words.now) c.in_ok-takes_files.ensures.form c.in-Err.error c.untaken.result
    c.in-Err.ensures.kinds c.untaken.ensures.none c.untaken.ensures.memory
