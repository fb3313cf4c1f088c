-- The words of a call, from the command's name on.
use Rattle.std.specs.Prelude.{ℕ, Bool, false, Option, None, List, [], ◌∷◌, codes, map, option_map, option_and_then, string_bytes, if◌then◌else◌}
use Rattle.std.specs.Str.{bytes_eq}
use Rattle.clap.specs.Walk.{Row, all_of, first_of}
use Rattle.clap.specs.Simple.{App, matches_of}
use Rattle.winrt_words.specs.Forms.{files_form, takes}
use Rattle.winrt_words.specs.declared.given.Given.{Given}
use Rattle.winrt_words.specs.declared.command.Command.{Command}
use Rattle.winrt_words.specs.declared.command.Command.TheVariants.{Midl, MdMerge}

-- OUT, and the FILEs in the order of the words
abbrev pub Names : Type 0
Names = List ℕ × List (List ℕ)

-- what a parse found for `-o` and for the files, where it found both
abbrev pub names_in : List Row → Option Names
names_in rows = option_and_then (λ out. option_map (λ files. (out, files)) (all_of (codes "files") rows)) (first_of (codes "out") rows)

-- what the words name, where the form takes them
unfoldable pub names_by : App → List (List ℕ) → Option Names
names_by form words = if takes form words then names_in (matches_of form words) else None

-- the first word is a command's name as it stands, and the form of that command takes the words
abbrev pub takes_by : List ℕ → List (List ℕ) → Bool
takes_by name words =
    if bytes_eq name (codes "midl") then takes (files_form (codes "midl")) words
    else if bytes_eq name (codes "mdmerge") then takes (files_form (codes "mdmerge")) words
    else false

abbrev pub is_taken : List (List ℕ) → Bool
is_taken [] = false
is_taken (name ∷ words) = takes_by name (name ∷ words)

abbrev pub names_seen : Given → Names
names_seen given = (string_bytes given.out, map string_bytes given.files.items)

-- a command, with what its words name
pub data Named : Type 0 where
  midl : Names → Named
  mdmerge : Names → Named

-- What the words name by the form of the command that the first word names.
abbrev pub named_by : List ℕ → List (List ℕ) → Option Named
named_by name words =
    if bytes_eq name (codes "midl") then option_map midl (names_by (files_form (codes "midl")) words)
    else if bytes_eq name (codes "mdmerge") then option_map mdmerge (names_by (files_form (codes "mdmerge")) words)
    else None

-- The command that the words name, if they name any.
abbrev pub named_in : List (List ℕ) → Option Named
named_in [] = None
named_in (name ∷ words) = named_by name (name ∷ words)

abbrev pub command_seen : Command → Named
command_seen (Midl given) = midl (names_seen given)
command_seen (MdMerge given) = mdmerge (names_seen given)
