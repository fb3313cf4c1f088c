-- What stops a set at its next file.
use Rattle.std.proofs.Common.{◌≡◌, ℕ, ◌<◌, ◌≤◌, List, length, Option, Some, None, IsSomeAnd, IfSome, Result, Err, String, string_bytes, ◌+◌, refl, sym, subst, arith}
use Rattle.std.proofs.lemmas.List.{length-replicate}
use Rattle.std.proofs.Math.ListN.{replicate}
use Rattle.std.specs.declared.alloc.Global.{Global}
use Rattle.std.specs.FinMap as map
use Rattle.wr_outside.specs.Files.{Files}
use Rattle.source_set.specs.declared.source.Source.{Source}
use Rattle.source_set.specs.declared.source.SourceStop.{SourceStop}
use Rattle.source_set.specs.declared.source.SourceStop.TheVariants.{TooMany, Missing, TooLong, ReadFault, Refused, Memory}
use Rattle.source_set.specs.Events.{Event, too_many, missing, too_long, refused, IsNext, Begins, Holds, StopsAt}
use Rattle.source_set.specs.Found.{Read, most_files, room}
use Rattle.source_set.specs.Reads.{MayHold}
use Rattle.source_set.specs.Stops.{Stopped, Faulted, Reached, StopIs}
use Rattle.source_set.specs.Turns.{Turn, TurnIs}
use Rattle.source_set.proofs.SetLemmas.{Settled, settled, fresh}

-- these files were read, and one of this name comes next
pub record Before (words : List (List ℕ)) (held : Option Files) (reads : List Read) (name : List ℕ) : Type 0 where
  pub files : Files
  pub may_hold : MayHold held files
  pub begins : Begins words reads
  pub holds : Holds files reads
  pub next : IsNext words reads name

-- the same, with what is held under the name
pub settle : (words : List (List ℕ)) (held : Option Files) (reads : List Read) (name : List ℕ) (content : Option (List ℕ)) → Before words held reads name
    → IfSome held (λ told. map.get told name ≡ content) → Settled held reads name content
settle words held reads name content h told = settled held h.files reads name content h.may_hold h.holds (fresh words reads name h.begins h.next) told

module _ (words : List (List ℕ)) (held : Option Files) (reads : List Read) (name : List ℕ) where
  event_here : (event : Event) (content : Option (List ℕ)) → Before words held reads name → Settled held reads name content → StopsAt reads content event
      → Stopped words held name event
  event_here event content h s stops = record {
    files = s.files;
    may_hold = s.may_hold;
    first = record {
      reads = reads;
      begins = h.begins;
      holds = s.holds;
      next = h.next;
      stops = subst (λ o. StopsAt reads o event) (sym s.content_is) stops;
    };
  }

  -- the file is one too many
  pub one_too_many : Before words held reads name → most_files ≤ length reads → Stopped words held name too_many
  one_too_many h many = record {
    files = h.files;
    may_hold = h.may_hold;
    first = record { reads = reads; begins = h.begins; holds = h.holds; next = h.next; stops = many };
  }

  fault_here : (bytes : List ℕ) (event : Event) → Before words held reads name → Settled held reads name (Some bytes) → StopsAt reads (Some bytes) event
      → Faulted words held name bytes event
  unfolding event_here
  fault_here bytes event h s stops =
      let first = event_here event (Some bytes) h s stops in
      record { files = s.files; may_hold = s.may_hold; first = first.first; bytes_are = s.content_is }

  read_failed : Before words held reads name → length reads < most_files → Reached words held name
  read_failed h few = record {
    files = h.files;
    may_hold = h.may_hold;
    awaits = record { reads = reads; begins = h.begins; holds = h.holds; few = few; next = h.next };
  }

  -- what stopped the file stops the set
  stops_by : (stop : SourceStop) (content : Option (List ℕ)) → Before words held reads name → length reads < most_files
      → IfSome held (λ told. map.get told name ≡ content) → TurnIs (length reads) (room reads) name content (Err stop) → StopIs words held stop
  stops_by (TooMany n) content h few told is = absurd is
  stops_by (Missing n) content h few told is =
      subst (λ m. Stopped words held m missing) (sym is.0) (event_here missing content h (settle words held reads name content h told) (few, is.1))
  stops_by (TooLong n) content h few told is =
      subst (λ m. Stopped words held m too_long) (sym is.0) (event_here too_long content h (settle words held reads name content h told) (few, is.1))
  stops_by (ReadFault n) content h few told is = subst (Reached words held) (sym is) (read_failed h few)
  stops_by (Refused text refusal) content h few told is =
      let s = settle words held reads name content h told in
      subst (λ m. Faulted words held m text.bytes.items (refused refusal)) (sym is.0)
      (fault_here text.bytes.items (refused refusal) h (subst (Settled held reads name) is.1 s) (few, (is.2, is.3)))
  stops_by Memory content h few told is = tt

  pub stops : (number limit : ℕ) (stop : SourceStop) → Before words held reads name → length reads < most_files → number ≡ length reads → limit ≡ room reads
      → Turn held number limit name (Err stop) → StopIs words held stop
  stops number limit stop h few n l turn =
      stops_by stop turn.content h few turn.told
      (subst (λ k. TurnIs k (room reads) name turn.content (Err stop)) n (subst (λ k. TurnIs number k name turn.content (Err stop)) l turn.is))

-- ---- what reading one file answered

-- an answer that holds whatever is held under the name
pub any_turn : (held : Option Files) (number limit : ℕ) (name : List ℕ) (result : Result Source SourceStop)
    → ((content : Option (List ℕ)) → TurnIs number limit name content result) → Turn held number limit name result
any_turn None number limit name result h = record { content = None; told = tt; is = h None }
any_turn (Some files) number limit name result h = record { content = map.get files name; told = refl; is = h (map.get files name) }

longer : (content : Option (List ℕ)) (limit size : ℕ) → IsSomeAnd content (λ bytes. (size ≡ length bytes) × (limit < size)) → IsSomeAnd content (λ bytes. limit < length bytes)
longer None limit size h = h
longer (Some bytes) limit size h = omega (arith, h.0, h.1)

-- the file has more bytes than it may
pub long_turn : (held : Option Files) (number limit size : ℕ) (name : String Global)
    → IfSome held (λ files. IsSomeAnd (map.get files (string_bytes name)) (λ bytes. (size ≡ length bytes) × (limit < size)))
    → Turn held number limit (string_bytes name) (Err (TooLong name))
long_turn None number limit size name h = record {
  content = Some (replicate (limit + 1) 0);
  told = tt;
  is = (refl, omega (arith, length-replicate {A = ℕ} (limit + 1) 0));
}
long_turn (Some files) number limit size name h = record {
  content = map.get files (string_bytes name);
  told = refl;
  is = (refl, longer (map.get files (string_bytes name)) limit size h);
}
