-- Type uses as they are read (ECMA-335 II.23.2.12): integers of any form, modifiers passed over.
use Rattle.std.specs.Prelude.{ℕ, zero, suc, ◌-◌, ◌==◌, nat_lt, bytes_eq, Bool, false, List, [], ◌∷◌, length, take, drop, Option, Some, None, Result, Ok, Err, if◌then◌else◌}
use Rattle.md_schema.specs.declared.faults.ImageKind.{ImageKind}
use Rattle.md_schema.specs.declared.faults.ImageKind.TheVariants.{BadShape, SigShort, SigElement, SigDeep, FloatType}
use Rattle.wr_base.specs.Paths.{is_path}
use Rattle.wr_base.specs.declared.type_use.Base.{Base}
use Rattle.wr_base.specs.declared.type_use.Base.TheVariants as bases
use Rattle.sig_blobs.specs.declared.flaw.Flaw.{Flaw}
use Rattle.sig_blobs.specs.Elements.{value_type, class, generic_inst, is_float, is_modifier, system_guid, base_of}
use Rattle.sig_blobs.specs.Reading.{Reads, flaw, ◌>>=◌, integer, byte, several}
use Rattle.sig_blobs.specs.Templates.{suffix}
use Rattle.wr_base.specs.Trees.{UseTree, plain, value, reference, instance, uses_of}

-- The full name of the type that a number stands for, or why there is none.
abbrev pub Meanings : Type 0
Meanings = ℕ → Result (List ℕ) ImageKind

-- ---- modifiers (II.23.2.7)

abbrev pub begins_modifier : List ℕ → Bool
begins_modifier [] = false
begins_modifier (b ∷ bytes) = is_modifier b

-- any modifiers, each with a token that isn't looked up; there are no more of them than this
unfoldable pub behind_modifiers : ℕ → List ℕ → Result (List ℕ) Flaw
behind_modifiers zero bytes = Ok bytes
behind_modifiers (suc most) [] = Ok []
behind_modifiers (suc most) (b ∷ bytes) = if is_modifier b then (integer bytes >>= λ token. behind_modifiers most token.1) else Ok (b ∷ bytes)

abbrev pub unmodified : List ℕ → Result (List ℕ) Flaw
unmodified bytes = behind_modifiers (length bytes) bytes

-- ---- names (II.23.2.8)

abbrev pub meant : List ℕ → Result (List ℕ) ImageKind → Result (List ℕ) Flaw
meant bytes (Ok name) = Ok name
meant bytes (Err kind) = flaw kind bytes

-- the full name of the type that the token here stands for
abbrev pub token_name : Meanings → Reads (List ℕ)
token_name names bytes = do
  token ← integer bytes
  name ← meant bytes (names token.0)
  Ok (name, token.1)

-- a name that is two or more identifiers
abbrev pub path_of : List ℕ → List ℕ → Result (List ℕ) Flaw
path_of bytes name = if is_path name then Ok name else flaw BadShape bytes

-- `System.Guid` is the base type Guid
abbrev pub value_of : List ℕ → List ℕ → Result UseTree Flaw
value_of bytes name = if bytes_eq name system_guid then Ok (plain bases.Guid) else (path_of bytes name >>= λ path. Ok (value path))

-- a text without what it ends with, if it does
abbrev pub stripped : List ℕ → List ℕ → Option (List ℕ)
stripped end text = if bytes_eq (drop (length text - length end) text) end then Some (take (length text - length end) text) else None

abbrev pub template_of : List ℕ → Option (List ℕ) → Result (List ℕ) Flaw
template_of bytes None = flaw SigElement bytes
template_of bytes (Some name) = path_of bytes name

-- a template's name without the number of arguments with which it ends, where there are some
abbrev pub without_count : List ℕ → ℕ → List ℕ → Result (List ℕ) Flaw
without_count bytes count name = if nat_lt 0 count then template_of bytes (stripped (suffix count) name) else flaw SigElement bytes

-- ---- uses

-- what stands at the front of a use: all of it, or a template and how many arguments follow
pub data Front : Type 0 where
  alone : UseTree → Front
  applied : List ℕ → ℕ → Front

abbrev pub value_in : Meanings → Reads Front
value_in names bytes = do
  name ← token_name names bytes
  use_ ← value_of bytes name.0
  Ok (alone use_, name.1)

abbrev pub reference_in : Meanings → Reads Front
reference_in names bytes = do
  name ← token_name names bytes
  path ← path_of bytes name.0
  Ok (alone (reference path), name.1)

-- a template's token and the number of arguments
abbrev pub counted_in : Meanings → Reads Front
counted_in names bytes = do
  name ← token_name names bytes
  count ← integer name.1
  path ← without_count bytes count.0 name.0
  Ok (applied path count.0, count.1)

-- an instance, behind its first element; templates are interfaces and delegates, so CLASS follows
abbrev pub template_in : Meanings → Reads Front
template_in names bytes = byte class bytes >>= λ rest. counted_in names rest

-- why an element isn't allowed where a type stands
abbrev pub refusal : ℕ → ImageKind
refusal b = if is_float b then FloatType else SigElement

-- behind an element that isn't a base type's
abbrev pub other_front : Meanings → ℕ → Reads Front
other_front names b bytes =
    if b == value_type then value_in names bytes
    else if b == class then reference_in names bytes
    else if b == generic_inst then template_in names bytes
    else flaw (refusal b) (b ∷ bytes)

abbrev pub front_behind : Meanings → Option Base → ℕ → Reads Front
front_behind names (Some base) b bytes = Ok (alone (plain base), bytes)
front_behind names None b bytes = other_front names b bytes

abbrev pub front_at : Meanings → Reads Front
front_at names [] = flaw SigShort []
front_at names (b ∷ bytes) = front_behind names (base_of b) b bytes

-- a use, whose front is read, and whose arguments are read so
abbrev pub completed : Reads UseTree → Front → Reads UseTree
completed argument (alone use_) bytes = Ok (use_, bytes)
completed argument (applied name count) bytes = several argument count bytes >>= λ arguments. Ok (instance name (uses_of arguments.0), arguments.1)

-- a use that is at most so deep
unfoldable pub use_within : ℕ → Meanings → Reads UseTree
use_within zero names bytes = flaw SigDeep bytes
use_within (suc depth) names bytes = do
  rest ← unmodified bytes
  front ← front_at names rest
  completed (use_within depth names) front.0 front.1

-- a type use is at most 16 deep
abbrev pub use_at : Meanings → Reads UseTree
use_at names = use_within 16 names
