-- What reading one image answers.
use Rattle.std.specs.Prelude.{◌≡◌, ℕ, ◌<◌, List, Option, Result, Ok, Err, map, string_bytes}
use Rattle.winmd_rows.specs.Faults as faults
use Rattle.winmd_strict.specs.Reading.{TypesOf}
use Rattle.wr_base.specs.Trees.{decl_tree}
use Rattle.wr_base.specs.declared.declaration.Declaration.{Declaration}
use Rattle.wr_outside.specs.Files.{Files}
use Rattle.image_set.specs.Images.{MayRead, StopsBy, TakenBy, most_images, too_many, missing, too_long, faulty}
use Rattle.image_set.specs.declared.stop.ImageStop.{ImageStop}
use Rattle.image_set.specs.declared.stop.ImageStop.TheVariants.{TooMany, Missing, TooLong, ReadFault, Faulty, Memory}

-- by the bytes: the types that they state, or their first fault
abbrev pub Reads : List ℕ → List ℕ → Result (List Declaration) ImageStop → Type 0
Reads bytes name (Ok types) = TypesOf bytes ≡ Ok (map decl_tree types)
Reads bytes name (Err (Faulty n fault)) = (string_bytes n ≡ name) × (TypesOf bytes ≡ Err (faults.Faulty fault))
Reads bytes name (Err Memory) = Unit {0}
Reads bytes name (Err _) = ⊥

-- by what is held under the name: its types, or why there are none
abbrev pub TurnIs : ℕ → List ℕ → Option (List ℕ) → Result (List Declaration) ImageStop → Type 0
TurnIs number name content (Ok types) = TakenBy number content types
TurnIs number name content (Err (TooMany n)) = (string_bytes n ≡ name) × StopsBy number content too_many
TurnIs number name content (Err (Missing n)) = (string_bytes n ≡ name) × StopsBy number content missing
TurnIs number name content (Err (TooLong n)) = (string_bytes n ≡ name) × StopsBy number content too_long
TurnIs number name content (Err (ReadFault n)) = (string_bytes n ≡ name) × (number < most_images)
TurnIs number name content (Err (Faulty n fault)) = (string_bytes n ≡ name) × StopsBy number content (faulty fault)
TurnIs number name content (Err Memory) = Unit {0}

-- the same for what the store holds, as far as it tells
pub record Turn (held : Option Files) (number : ℕ) (name : List ℕ) (result : Result (List Declaration) ImageStop) : Type 0 where
  pub content : Option (List ℕ)
  pub told : MayRead held name content
  pub is : TurnIs number name content result
