-- What reading one image answered.
use Rattle.std.proofs.Common.{◌≡◌, ℕ, ◌+◌, ◌<◌, ◌≤◌, List, length, Option, Some, None, IsSomeAnd, IfSome, Result, Ok, Err, String, string_bytes, refl, subst, arith}
use Rattle.std.proofs.lemmas.List.{length-replicate}
use Rattle.std.proofs.Math.ListN.{replicate}
use Rattle.std.specs.declared.alloc.Global.{Global}
use Rattle.std.specs.FinMap as map
use Rattle.wr_base.specs.declared.declaration.Declaration.{Declaration}
use Rattle.wr_outside.specs.Files.{Files}
use Rattle.image_set.specs.declared.stop.ImageStop.{ImageStop}
use Rattle.image_set.specs.declared.stop.ImageStop.TheVariants.{TooMany, Missing, TooLong, ReadFault, Faulty, Memory}
use Rattle.image_set.specs.Images.{image_limit, most_images}
use Rattle.image_set.specs.Turns.{Reads, Turn, TurnIs}

longer : (content : Option (List ℕ)) (limit size : ℕ) → IsSomeAnd content (λ bytes. (size ≡ length bytes) × (limit < size)) → IsSomeAnd content (λ bytes. limit < length bytes)
longer None limit size h = h
longer (Some bytes) limit size h = omega (arith, h.0, h.1)

-- some bytes that are too many
too_many_bytes : (limit : ℕ) → limit < length {A = ℕ} (replicate (limit + 1) 0)
too_many_bytes limit = omega (arith, length-replicate {A = ℕ} (limit + 1) 0)

module _ (number : ℕ) (name : List ℕ) where
  -- an answer that holds whatever is held under the name
  pub any_turn : (held : Option Files) (result : Result (List Declaration) ImageStop) → ((content : Option (List ℕ)) → TurnIs number name content result) → Turn held number name result
  any_turn None result h = record { content = None; told = tt; is = h None }
  any_turn (Some files) result h = record { content = map.get files name; told = refl; is = h (map.get files name) }

  -- the image has more bytes than it may
  pub long_turn : (held : Option Files) (n : String Global) (size : ℕ) → string_bytes n ≡ name → number < most_images
      → IfSome held (λ files. IsSomeAnd (map.get files name) (λ bytes. (size ≡ length bytes) × (image_limit < size))) → Turn held number name (Err (TooLong n))
  long_turn None n size e few told =
      record { content = Some (replicate (image_limit + 1) 0); told = tt; is = (e, (few, too_many_bytes image_limit)) }
  long_turn (Some files) n size e few told = record { content = map.get files name; told = refl; is = (e, (few, longer (map.get files name) image_limit size told)) }

  -- the image was read whole
  pub bytes_turn : (held : Option Files) (bytes : List ℕ) (result : Result (List Declaration) ImageStop) → IfSome held (λ files. (map.get files name ≡ Some bytes) × (length bytes ≤ image_limit))
      → length bytes ≤ image_limit → number < most_images → Reads bytes name result → Turn held number name result
  bytes_turn held bytes result told within few reads = record { content = Some bytes; told = held_as held told; is = by result reads }
    where
      held_as : (held : Option Files) → IfSome held (λ files. (map.get files name ≡ Some bytes) × (length bytes ≤ image_limit)) → IfSome held (λ files. map.get files name ≡ Some bytes)
      held_as None h = tt
      held_as (Some files) h = h.0

      by : (result : Result (List Declaration) ImageStop) → Reads bytes name result → TurnIs number name (Some bytes) result
      by (Ok types) h = (few, (within, h))
      by (Err (Faulty n fault)) h = (h.0, (few, (within, h.1)))
      by (Err Memory) h = tt
      by (Err (TooMany n)) h = absurd h
      by (Err (Missing n)) h = absurd h
      by (Err (TooLong n)) h = absurd h
      by (Err (ReadFault n)) h = absurd h

-- an answer, by what is equal to its store, number and name
pub turn_at : (mid held : Option Files) (number k : ℕ) (n name : List ℕ) (result : Result (List Declaration) ImageStop) → mid ≡ held → number ≡ k → n ≡ name
    → Turn mid number n result → Turn held k name result
turn_at mid held number k n name result e f g turn =
    subst (λ h. Turn h k name result) e (subst (λ j. Turn mid j name result) f (subst (λ m. Turn mid number m result) g turn))
