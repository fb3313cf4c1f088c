-- Values of attributes: what they spell first, and which is canonical.
use Rattle.std.specs.Prelude.{◌≡◌, ℕ, ◌^◌, ◌<◌, IsTrue, List, length, Ok}
use Rattle.std.specs.Str.{is_utf8}
use Rattle.wr_base.specs.Paths.{is_path}
use Rattle.sig_blobs.specs.Attributes.{value_bytes, first_argument}
use Rattle.sig_blobs.specs.declared.argument.Argument.{Argument}
use Rattle.sig_blobs.specs.declared.argument.Argument.TheVariants as arguments
use Rattle.sig_blobs.specs.declared.argument.ArgumentKind.{ArgumentKind}
use Rattle.sig_blobs.specs.declared.argument.ArgumentKind.TheVariants as kinds

abbrev pub kind_of : Argument → ArgumentKind
kind_of (arguments.Number n) = kinds.Number
kind_of (arguments.Words text) = kinds.Words
kind_of (arguments.TypeName name) = kinds.TypeName
kind_of (arguments.Id id) = kinds.Id

-- a number of 32 bits, a text in UTF-8 and a path whose lengths can be compressed, a number of 128 bits
abbrev pub ArgumentFits : Argument → Type 0
ArgumentFits (arguments.Number n) = n < 2 ^ 32
ArgumentFits (arguments.Words text) = IsTrue (is_utf8 text) × (length text < 2 ^ 29)
ArgumentFits (arguments.TypeName name) = IsTrue (is_path name) × (length name < 2 ^ 29)
ArgumentFits (arguments.Id id) = id < 2 ^ 128

abbrev pub CanonicalValue : List ℕ → List Argument → Type 0
CanonicalValue blob args = blob ≡ value_bytes args

abbrev pub SpellsFirst : List ℕ → Argument → Type 0
SpellsFirst blob argument = first_argument (kind_of argument) blob ≡ Ok argument
