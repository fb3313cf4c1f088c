-- The forms of the commands' words, by what `clap` reads of a command.
use Rattle.std.specs.Prelude.{◌≡◌, ℕ, Bool, true, false, Some, is_some, List, [], ◌∷◌, codes}
use Rattle.clap.specs.Lexer.{usize_max}
use Rattle.clap.specs.Walk.{Rule}
use Rattle.clap.specs.Simple.{App, new_app, new_rule, with_rule}
use Rattle.clap.specs.Faults.{fault_of}
use Rattle.clap.specs.Kinds.{Kinds}
use Rattle.clap.specs.Words.{IsParsedFrom, first_value, found_of, matched_of}
use Rattle.clap.specs.declared.builder.action.ArgAction.TheVariants.{Set}
use Rattle.clap.specs.declared.builder.command.Command.{Command}
use Rattle.clap.specs.declared.parser.matches.ArgMatches.{ArgMatches}

-- `-o OUT`, which has to be there
abbrev pub out_rule : Rule
out_rule = record (new_rule (codes "out")) { short = Some 111; action = Some Set; required = true }

-- one name or more, the words that are no option's
abbrev pub files_rule : Rule
files_rule = record (new_rule (codes "files")) {
  range = Some (record { start_inclusive = 1; end_inclusive = usize_max });
  required = true;
}

-- `NAME -o OUT FILE..`: nothing has a default, and nothing excludes anything.
unfoldable pub files_form : List ℕ → App
files_form name = with_rule (with_rule (new_app name) out_rule) files_rule

-- a parse that succeeds finds a value of `-o`, and the files
abbrev pub FindsBoth : Command → Type 0
FindsBoth command = (matches : ArgMatches) → IsParsedFrom command matches
    → (is_some (first_value (found_of matches) (codes "out")) ≡ true) × (is_some (matched_of (found_of matches) (codes "files")) ≡ true)

-- no step of a parse fails
abbrev pub is_clear : Kinds → Bool
is_clear [] = true
is_clear (kind ∷ kinds) = false

-- The form takes the words, of which the first is the command's name: by the definition of `clap`, no step of the parse fails.
unfoldable pub takes : App → List (List ℕ) → Bool
takes form words = is_clear (fault_of form words)
