-- Reading at the front of a blob: what is read and the bytes behind it, or what is wrong and how many bytes are left from there on.
use Rattle.std.specs.Prelude.{ℕ, zero, suc, ◌-◌, ◌==◌, List, [], ◌∷◌, length, drop, Result, Ok, Err, if◌then◌else◌}
use Rattle.md_schema.specs.Faults.{fault_at}
use Rattle.md_schema.specs.declared.faults.ImageFault.{ImageFault}
use Rattle.md_schema.specs.declared.faults.ImageKind.{ImageKind}
use Rattle.md_schema.specs.declared.faults.ImageKind.TheVariants.{SigShort, SigElement, SigTail}
use Rattle.md_heaps.specs.Integers.{compressed_of}
use Rattle.ranked.specs.declared.stop.Stop.{Stop}
use Rattle.ranked.specs.declared.stop.Stop.TheVariants.{Memory, Refused}
use Rattle.sig_blobs.specs.declared.flaw.Flaw.{Flaw}

abbrev pub Reads : Type 0 → Type 0
Reads A = List ℕ → Result (A × List ℕ) Flaw

-- it is wrong where these bytes begin
abbrev pub flaw : {A : Type 0} → ImageKind → List ℕ → Result A Flaw
flaw kind bytes = Err (record { kind = kind; left = length bytes })

infixl 10 ◌>>=◌
abbrev pub ◌>>=◌ : {A B : Type 0} → Result A Flaw → (A → Result B Flaw) → Result B Flaw
(Ok x) >>= f = f x
(Err e) >>= f = Err e

-- the fault of a blob, at its offset there
abbrev pub fault_in : List ℕ → Flaw → ImageFault
fault_in blob e = fault_at e.kind (length blob - e.left)

abbrev pub placed : {A : Type 0} → List ℕ → Result A Flaw → Result A ImageFault
placed blob (Ok x) = Ok x
placed blob (Err e) = Err (fault_in blob e)

abbrev pub stop_in : List ℕ → Stop Flaw → Stop ImageFault
stop_in blob Memory = Memory
stop_in blob (Refused e) = Refused (fault_in blob e)

abbrev pub behind_integer : List ℕ → Result (ℕ × ℕ) ImageFault → Result (ℕ × List ℕ) Flaw
behind_integer bytes (Ok (n, size)) = Ok (n, drop size bytes)
behind_integer bytes (Err e) = flaw e.kind bytes

-- a compressed integer of any form (II.23.2)
unfoldable pub integer : Reads ℕ
integer bytes = behind_integer bytes (compressed_of bytes)

-- one byte, which is this
abbrev pub byte : ℕ → List ℕ → Result (List ℕ) Flaw
byte b [] = flaw SigShort []
byte b (c ∷ bytes) = if c == b then Ok bytes else flaw SigElement (c ∷ bytes)

-- so many of something
abbrev pub several : {A : Type 0} → Reads A → ℕ → Reads (List A)
several one zero bytes = Ok ([], bytes)
several one (suc count) bytes = do
  first ← one bytes
  others ← several one count first.1
  Ok (first.0 ∷ others.0, others.1)

-- nothing is left
abbrev pub whole : {A : Type 0} → A × List ℕ → Result A Flaw
whole (x, []) = Ok x
whole (x, b ∷ bytes) = flaw SigTail (b ∷ bytes)
