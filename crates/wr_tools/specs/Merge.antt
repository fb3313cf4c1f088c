-- What `mdmerge -o OUT IMAGE..` replies.
use Rattle.std.specs.Prelude.{◌≡◌, ◌⊎◌, ℕ, true, false, Option, Some, List, [], ◌∷◌, ◌++◌, codes}
use Rattle.ranked.specs.Entries.{Entry}
use Rattle.wr_base.specs.Codes.{rank_of, code_name}
use Rattle.wr_base.specs.declared.code.Code.{Code}
use Rattle.wr_base.specs.declared.declaration.Declaration.{Declaration}
use Rattle.wr_outside.specs.Files.{Files}
use Rattle.source_set.specs.Lines.{word_part}
use Rattle.image_set.specs.Images.{AreTaken, Awaits, Event, FirstEvent, too_many, missing, too_long, faulty}
use Rattle.image_set.specs.Lines.{fault_line}
use Rattle.md_merge.specs.Merged.{IsMerged, IsRefusalOf}
use Rattle.md_merge.specs.declared.refusal.MergeRefusal.{MergeRefusal}
use Rattle.md_merge.specs.declared.refusal.MergeRefusal.TheVariants.{Conflict, Broken}
use Rattle.wr_tools.specs.Reply.{Reply, refusal, done}
use Rattle.wr_tools.specs.Command.{Command}
use Rattle.wr_tools.specs.Sets.{Image}

-- the line of an image's event
abbrev pub event_line : List ℕ → Event → List ℕ
event_line name too_many = name ++ codes ": TooMany\n"
event_line name missing = name ++ codes ": Missing\n"
event_line name too_long = name ++ codes ": TooLong\n"
event_line name (faulty fault) = fault_line name fault

-- content is refused by 1, and a file by 3
abbrev pub status_of : Event → ℕ
status_of too_many = 3
status_of missing = 3
status_of too_long = 3
status_of (faulty fault) = 1

-- `OUT: CODE: NAME` and a line feed
pub record IsBrokenLine (out : List ℕ) (e : Entry) (line : List ℕ) : Type 0 where
  pub code : Code
  pub ranked : rank_of code ≡ e.code
  pub is : line ≡ (out ++ (codes ": " ++ code_name code)) ++ word_part e.word ++ codes "\n"

-- the line of what refuses the union: `OUT: Conflict: NAME`, or that of a broken rule or limit
abbrev pub IsMergeLine : List ℕ → MergeRefusal → List ℕ → Type 0
IsMergeLine out (Conflict name) line = line ≡ out ++ (codes ": Conflict: " ++ (name ++ codes "\n"))
IsMergeLine out (Broken e) line = IsBrokenLine out e line

-- an image is refused, the first in the order of the words
pub record ImageRefused (words : List (List ℕ)) (held : Option Files) (reply : Reply) : Type 0 where
  pub name : List ℕ
  pub event : Event
  pub first : FirstEvent held words name event
  pub is : reply ≡ refusal (status_of event) (event_line name event)

-- each image states a set, and they are refused together: a name has two declarations, else a rule is broken in the union, else a limit
pub record UnionRefused (out : List ℕ) (words : List (List ℕ)) (held : Option Files) (reply : Reply) : Type 0 where
  pub sets : List (List Declaration)
  pub taken : AreTaken held words sets
  pub cause : MergeRefusal
  pub refuses : IsRefusalOf sets cause
  pub line : List ℕ
  pub said : IsMergeLine out cause line
  pub is : reply ≡ refusal 1 line

-- the union of the sets is accepted, and an image of it is written
pub record United (out : List ℕ) (words : List (List ℕ)) (held : Option Files) (reply : Reply) : Type 0 where
  pub sets : List (List Declaration)
  pub taken : AreTaken held words sets
  pub types : List Declaration
  pub merged : IsMerged sets types
  pub bytes : List ℕ
  pub image : Image types bytes
  pub is : reply ≡ done out bytes

-- the order of refusals: image by image, then the union, its rules, its limits
abbrev pub MergeReplies : List ℕ → List (List ℕ) → Option Files → Reply → Type 0
MergeReplies out words held reply = ImageRefused words held reply ⊎ UnionRefused out words held reply ⊎ United out words held reply

-- each image is held within its limit and states a set, none is the 257th, and the union is accepted
pub record AreRight (words : List (List ℕ)) (files : Files) : Type 0 where
  pub sets : List (List Declaration)
  pub taken : AreTaken (Some files) words sets
  pub types : List Declaration
  pub merged : IsMerged sets types

-- `mdmerge -o OUT IMAGE..` reads the images, writes OUT and prints nothing.
abbrev pub merge_command : List ℕ → List (List ℕ) → Command
merge_command out words = record {
  matched = true;
  replies = MergeReplies out words;
  awaits = λ held name. Awaits held words name;
  accepts = AreRight words;
  writes = out ∷ [];
  prints = false;
}
