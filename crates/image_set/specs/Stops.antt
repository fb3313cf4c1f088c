-- What an answer of all images says.
use Rattle.std.specs.Prelude.{ℕ, List, Option, string_bytes}
use Rattle.wr_outside.specs.Files.{Files}
use Rattle.image_set.specs.Images.{FirstEvent, Awaits, too_many, missing, too_long, faulty}
use Rattle.image_set.specs.declared.stop.ImageStop.{ImageStop}
use Rattle.image_set.specs.declared.stop.ImageStop.TheVariants.{TooMany, Missing, TooLong, ReadFault, Faulty, Memory}

-- what stopped; of want of memory nothing is said
abbrev pub StopIs : Option Files → List (List ℕ) → ImageStop → Type 0
StopIs held words (TooMany name) = FirstEvent held words (string_bytes name) too_many
StopIs held words (Missing name) = FirstEvent held words (string_bytes name) missing
StopIs held words (TooLong name) = FirstEvent held words (string_bytes name) too_long
StopIs held words (ReadFault name) = Awaits held words (string_bytes name)
StopIs held words (Faulty name fault) = FirstEvent held words (string_bytes name) (faulty fault)
StopIs held words Memory = Unit {0}

-- a read failed
abbrev pub IsReadFault : ImageStop → Type 0
IsReadFault (TooMany name) = ⊥
IsReadFault (Missing name) = ⊥
IsReadFault (TooLong name) = ⊥
IsReadFault (ReadFault name) = Unit {0}
IsReadFault (Faulty name fault) = ⊥
IsReadFault Memory = ⊥
