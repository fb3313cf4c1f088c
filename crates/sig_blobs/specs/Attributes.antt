-- Values of attributes (ECMA-335 II.23.3): the prolog 01 00, the constructor's arguments, and no named ones.
use Rattle.std.specs.Prelude.{ℕ, ◌/◌, ◌%◌, ◌^◌, ◌==◌, ◌&&◌, nat_lt, List, [], ◌∷◌, ◌++◌, length, take, drop, Option, Some, None, Result, Ok, Err, if◌then◌else◌}
use Rattle.std.specs.List.{flat_map, before_first}
use Rattle.std.specs.Str.{is_utf8}
use Rattle.byteorder.specs.Endian.{little_bytes, little_number, big_bytes}
use Rattle.md_heaps.specs.Integers.{compressed_of, shortest}
use Rattle.md_heaps.specs.Reading.{guid_at}
use Rattle.md_schema.specs.Faults.{fault_at}
use Rattle.md_schema.specs.declared.faults.ImageFault.{ImageFault}
use Rattle.md_schema.specs.declared.faults.ImageKind.TheVariants.{BadShape}
use Rattle.wr_base.specs.Paths.{is_path}
use Rattle.sig_blobs.specs.declared.argument.Argument.{Argument}
use Rattle.sig_blobs.specs.declared.argument.Argument.TheVariants as arguments
use Rattle.sig_blobs.specs.declared.argument.ArgumentKind.{ArgumentKind}
use Rattle.sig_blobs.specs.declared.argument.ArgumentKind.TheVariants as kinds

-- ---- as they are written

-- a text behind its length
abbrev pub text_bytes : List ℕ → List ℕ
text_bytes text = shortest (length text) ++ text

-- a Guid, as the numbers of its four parts (RFC 9562 section 4): of four, two and two bytes, lowest byte first, and eight single bytes
abbrev pub guid_bytes : ℕ → List ℕ
guid_bytes id = little_bytes 4 (id / 2 ^ 96) ++ little_bytes 2 (id / 2 ^ 80 % 2 ^ 16) ++ little_bytes 2 (id / 2 ^ 64 % 2 ^ 16) ++ big_bytes 8 (id % 2 ^ 64)

abbrev pub argument_bytes : Argument → List ℕ
argument_bytes (arguments.Number n) = little_bytes 4 n
argument_bytes (arguments.Words text) = text_bytes text
argument_bytes (arguments.TypeName name) = text_bytes name
argument_bytes (arguments.Id id) = guid_bytes id

abbrev pub value_bytes : List Argument → List ℕ
value_bytes args = 1 ∷ 0 ∷ flat_map argument_bytes args ++ 0 ∷ 0 ∷ []

-- ---- as they are read

abbrev pub behind_prolog : List ℕ → Option (List ℕ)
behind_prolog [] = None
behind_prolog (a ∷ []) = None
behind_prolog (a ∷ b ∷ bytes) = if a == 1 && b == 0 then Some bytes else None

abbrev pub number_in : List ℕ → Option Argument
number_in bytes = if nat_lt (length bytes) 4 then None else Some (arguments.Number (little_number 4 bytes))

-- a Guid's numbers stand as the sixteen bytes of a GUID in a heap do
abbrev pub id_of : Result ℕ ImageFault → Option Argument
id_of (Ok id) = Some (arguments.Id id)
id_of (Err fault) = None

abbrev pub id_in : List ℕ → Option Argument
id_in bytes = id_of (guid_at bytes 1)

abbrev pub first_bytes : ℕ → List ℕ → Option (List ℕ)
first_bytes count bytes = if nat_lt (length bytes) count then None else Some (take count bytes)

abbrev pub text_behind : List ℕ → Result (ℕ × ℕ) ImageFault → Option (List ℕ)
text_behind bytes (Err fault) = None
text_behind bytes (Ok (count, size)) = first_bytes count (drop size bytes)

abbrev pub utf8_text : List ℕ → Option (List ℕ)
utf8_text text = if is_utf8 text then Some text else None

abbrev pub utf8_of : Option (List ℕ) → Option (List ℕ)
utf8_of None = None
utf8_of (Some text) = utf8_text text

-- a text behind its length, which may have any form
abbrev pub text_in : List ℕ → Option (List ℕ)
text_in bytes = utf8_of (text_behind bytes (compressed_of bytes))

abbrev pub words_of : Option (List ℕ) → Option Argument
words_of None = None
words_of (Some text) = Some (arguments.Words text)

-- a type's name ends at the first comma, behind which an assembly may stand
abbrev pub before_comma : List ℕ → List ℕ
before_comma text = before_first (λ b. b == 44) text

abbrev pub path_of : List ℕ → Option Argument
path_of name = if is_path name then Some (arguments.TypeName name) else None

abbrev pub type_name_of : Option (List ℕ) → Option Argument
type_name_of None = None
type_name_of (Some text) = path_of (before_comma text)

-- an argument of this kind at the front
abbrev pub argument_in : ArgumentKind → List ℕ → Option Argument
argument_in kinds.Number bytes = number_in bytes
argument_in kinds.Words bytes = words_of (text_in bytes)
argument_in kinds.TypeName bytes = type_name_of (text_in bytes)
argument_in kinds.Id bytes = id_in bytes

abbrev pub shaped : ℕ → Option Argument → Result Argument ImageFault
shaped offset (Some argument) = Ok argument
shaped offset None = Err (fault_at BadShape offset)

abbrev pub argument_behind : ArgumentKind → Option (List ℕ) → Result Argument ImageFault
argument_behind kind None = shaped 0 None
argument_behind kind (Some bytes) = shaped 2 (argument_in kind bytes)

-- the first argument of a value; what follows it is passed over
abbrev pub first_argument : ArgumentKind → List ℕ → Result Argument ImageFault
first_argument kind blob = argument_behind kind (behind_prolog blob)
