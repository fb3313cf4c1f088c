-- Arguments of the attributes that are written (ECMA-335 II.23.3).
use Rattle.std.specs.Prelude.{ℕ, List, [], ◌∷◌}
use Rattle.sig_blobs.specs.declared.argument.Argument.{Argument}
use Rattle.sig_blobs.specs.declared.argument.Argument.TheVariants.{Number, Words, TypeName, Id}

abbrev pub number_argument : ℕ → List Argument
number_argument n = Number n ∷ []

abbrev pub words_argument : List ℕ → List Argument
words_argument text = Words text ∷ []

abbrev pub type_argument : List ℕ → List Argument
type_argument name = TypeName name ∷ []

abbrev pub id_argument : ℕ → List Argument
id_argument id = Id id ∷ []
