use Rattle.std.proofs.Common.{refl}
use Rattle.clap.proofs.OnLiterals.{clap_on_literals}
use Rattle.winrt_words.specs.Forms.{files_form, takes}
use Rattle.winrt_words.specs.Words.{names_by}
use Rattle.winrt_words.proofs.examples.examples_are_so.Goals as goal

pub returns : goal.returns
unfolding clap_on_literals files_form takes names_by
returns c = record { in_any_order = refl; as_files = refl; no_command = refl; not_taken = refl }
