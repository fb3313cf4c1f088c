-- Signatures as they are read (ECMA-335 II.23.2): what a blob spells, or its first fault and the fault's offset in the blob.
use Rattle.std.specs.Prelude.{ℕ, ◌==◌, Bool, true, false, List, [], ◌∷◌, Option, Some, None, Result, Ok, if◌then◌else◌}
use Rattle.md_schema.specs.declared.faults.ImageFault.{ImageFault}
use Rattle.md_schema.specs.declared.faults.ImageKind.TheVariants.{SigShort}
use Rattle.sig_blobs.specs.declared.flaw.Flaw.{Flaw}
use Rattle.sig_blobs.specs.Elements.{void, by_ref}
use Rattle.sig_blobs.specs.Reading.{Reads, flaw, ◌>>=◌, placed, integer, byte, several, whole}
use Rattle.wr_base.specs.Trees.{UseTree, ParamTree, SignatureTree}
use Rattle.sig_blobs.specs.Uses.{Meanings, unmodified, use_at}

-- a use and nothing behind it
abbrev pub use_alone : Meanings → List ℕ → Result UseTree Flaw
use_alone names bytes = use_at names bytes >>= λ read. whole read

-- ---- of a field (II.23.2.4)

abbrev pub field_in : Meanings → List ℕ → Result UseTree Flaw
field_in names blob = byte 0x06 blob >>= λ rest. use_alone names rest

abbrev pub field_of : Meanings → List ℕ → Result UseTree ImageFault
field_of names blob = placed blob (field_in names blob)

-- ---- of a property of an instance, which has no parameters (II.23.2.5)

abbrev pub property_in : Meanings → List ℕ → Result UseTree Flaw
property_in names blob = do
  rest ← byte 0x28 blob
  behind ← byte 0 rest
  use_alone names behind

abbrev pub property_of : Meanings → List ℕ → Result UseTree ImageFault
property_of names blob = placed blob (property_in names blob)

-- ---- of a TypeSpec (II.23.2.14)

abbrev pub spec_of : Meanings → List ℕ → Result UseTree ImageFault
spec_of names blob = placed blob (use_alone names blob)

-- ---- of a method of an instance (II.23.2.1)

-- a type, or VOID (II.23.2.11)
abbrev pub type_or_void : Meanings → Reads (Option UseTree)
type_or_void names [] = flaw SigShort []
type_or_void names (b ∷ bytes) = if b == void then Ok (None, bytes) else (use_at names (b ∷ bytes) >>= λ read. Ok (Some read.0, read.1))

abbrev pub result_in : Meanings → Reads (Option UseTree)
result_in names bytes = unmodified bytes >>= λ rest. type_or_void names rest

-- a signature has no names of parameters
abbrev pub param_of_type : Meanings → Bool → Reads ParamTree
param_of_type names out bytes = use_at names bytes >>= λ read. Ok (record { name = []; out = out; kind = read.0 }, read.1)

-- a type, behind BYREF where the parameter is out (II.23.2.10)
abbrev pub param_behind : Meanings → Reads ParamTree
param_behind names [] = flaw SigShort []
param_behind names (b ∷ bytes) = if b == by_ref then param_of_type names true bytes else param_of_type names false (b ∷ bytes)

abbrev pub param_in : Meanings → Reads ParamTree
param_in names bytes = unmodified bytes >>= λ rest. param_behind names rest

-- so many parameters, and nothing behind them
abbrev pub params_alone : Meanings → ℕ → List ℕ → Result (List ParamTree) Flaw
params_alone names count bytes = several (param_in names) count bytes >>= λ read. whole read

-- the result and so many parameters
abbrev pub signature_in : Meanings → ℕ → List ℕ → Result SignatureTree Flaw
signature_in names count bytes = do
  result ← result_in names bytes
  params ← params_alone names count result.1
  Ok (record { params = params; result = result.0 })

abbrev pub method_in : Meanings → List ℕ → Result SignatureTree Flaw
method_in names blob = do
  rest ← byte 0x20 blob
  count ← integer rest
  signature_in names count.0 count.1

abbrev pub method_of : Meanings → List ℕ → Result SignatureTree ImageFault
method_of names blob = placed blob (method_in names blob)
