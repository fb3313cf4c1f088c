-- What the blobs of an image spell (ECMA-335 II.23.2), where its tables say which type a token stands for.
use Rattle.std.specs.Prelude.{ℕ, Bool, true, false, List, [], ◌∷◌, ◌++◌, drop, Option, Some, None, Result, Ok, Err, if◌then◌else◌}
use Rattle.std.specs.List.{list_all, flat_map}
use Rattle.md_heaps.specs.Integers.{compressed_of}
use Rattle.md_schema.specs.declared.table.Table.{Table}
use Rattle.md_schema.specs.declared.table.Table.TheVariants as tables
use Rattle.md_schema.specs.declared.column.CodedIndex.TheVariants as coded
use Rattle.md_schema.specs.declared.faults.ImageFault.{ImageFault}
use Rattle.md_schema.specs.declared.faults.ImageKind.{ImageKind}
use Rattle.md_schema.specs.declared.faults.ImageKind.TheVariants.{BadTag, HeapRange, HeapText, PastLimit, SigElement}
use Rattle.md_schema.specs.Schema.{choices_of, bits_of}
use Rattle.md_schema.specs.Codes.{target_of}
use Rattle.sig_blobs.specs.Signatures as signatures
use Rattle.sig_blobs.specs.Uses.{Meanings}
use Rattle.wr_base.specs.Trees.{UseTree, plain, value, reference, instance, UseTrees, no_uses, use_and, SignatureTree}
use Rattle.winmd_rows.specs.Faults.{Fault, Faulty, fault, ◌>>=◌, checked}
use Rattle.wr_base.specs.Paths.{is_short_name}
use Rattle.winmd_rows.specs.Values.{To}
use Rattle.winmd_lines.specs.Cells.{Tables, named_at}

-- ---- tokens (II.23.2.8)

-- the full name of the type that a token stands for; a TypeSpec has none
abbrev pub target_name : Tables → ℕ → Option (Table × ℕ) → Result (List ℕ) Fault
target_name t offset None = fault BadTag offset
target_name t offset (Some (tables.TypeSpec, n)) = fault SigElement offset
target_name t offset (Some (table, n)) = named_at t offset (To table n)

abbrev pub token_name : Tables → ℕ → ℕ → Result (List ℕ) Fault
token_name t offset token = target_name t offset (target_of (bits_of coded.TypeDefOrRef) (choices_of coded.TypeDefOrRef) token)

abbrev pub without_place : {A : Type 0} → Result A Fault → Result A ImageKind
without_place (Ok x) = Ok x
without_place (Err (Faulty e)) = Err e.kind

abbrev pub meanings : Tables → Meanings
meanings t token = without_place (token_name t 0 token)

-- ---- where a blob's fault stands

-- the kinds that a name's own cell can have
abbrev pub is_of_text : ImageKind → Bool
is_of_text HeapRange = true
is_of_text HeapText = true
is_of_text _ = false

abbrev pub at_name : {A : Type 0} → Tables → ℕ → ImageKind → Result (ℕ × ℕ) ImageFault → Result A Fault
at_name t offset kind (Ok (token, size)) = token_name t offset token >>= λ name. fault kind offset
at_name t offset kind (Err e) = fault kind offset

-- It stands at the cell that names the blob; but a name that can't be read is a fault of the cell of that name.
abbrev pub spelled : {A : Type 0} → Tables → ℕ → List ℕ → Result A ImageFault → Result A Fault
spelled t offset blob (Ok x) = Ok x
spelled t offset blob (Err e) = if is_of_text e.kind then at_name t offset e.kind (compressed_of (drop e.offset blob)) else fault e.kind offset

-- ---- limits of the names

-- the full names in a use, templates without their counts
abbrev mutual
  pub paths_in : UseTree → List (List ℕ)
  paths_in (plain base) = []
  paths_in (value name) = name ∷ []
  paths_in (reference name) = name ∷ []
  paths_in (instance name arguments) = name ∷ paths_among arguments

  pub paths_among : UseTrees → List (List ℕ)
  paths_among no_uses = []
  paths_among (use_and u us) = paths_in u ++ paths_among us

abbrev pub paths_of_result : Option UseTree → List (List ℕ)
paths_of_result None = []
paths_of_result (Some type_) = paths_in type_

abbrev pub paths_of : SignatureTree → List (List ℕ)
paths_of sig = paths_of_result sig.result ++ flat_map (λ param. paths_in param.kind) sig.params

abbrev pub limited : {A : Type 0} → ℕ → List (List ℕ) → A → Result A Fault
limited offset paths x = checked (list_all is_short_name paths) PastLimit offset >>= λ short. Ok x

-- ---- blobs, for a cell at an offset

abbrev pub field_of : Tables → ℕ → List ℕ → Result UseTree Fault
field_of t offset blob = spelled t offset blob (signatures.field_of (meanings t) blob) >>= λ u. limited offset (paths_in u) u

abbrev pub property_of : Tables → ℕ → List ℕ → Result UseTree Fault
property_of t offset blob = spelled t offset blob (signatures.property_of (meanings t) blob) >>= λ u. limited offset (paths_in u) u

abbrev pub spec_of : Tables → ℕ → List ℕ → Result UseTree Fault
spec_of t offset blob = spelled t offset blob (signatures.spec_of (meanings t) blob) >>= λ u. limited offset (paths_in u) u

abbrev pub method_of : Tables → ℕ → List ℕ → Result SignatureTree Fault
method_of t offset blob = spelled t offset blob (signatures.method_of (meanings t) blob) >>= λ sig. limited offset (paths_of sig) sig
