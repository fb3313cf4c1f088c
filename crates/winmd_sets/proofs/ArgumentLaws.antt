-- The argument that an attribute is written with is read from its value.
use Rattle.std.proofs.Common.{◌≡◌, ℕ, zero, suc, ◌^◌, ◌<◌, true, List, [], ◌∷◌, length, Result, Ok, refl, ap, ◌∙◌, arith}
use Rattle.std.specs.List.{list_all}
use Rattle.std.specs.Str.{IsAscii, is_utf8}
use Rattle.std.proofs.lemmas.Bool.{and_parts}
use Rattle.std.proofs.lemmas.Str.{IsUtf8-from_ascii, is_utf8-from_IsUtf8}
use Rattle.md_schema.specs.declared.faults.ImageFault.{ImageFault}
use Rattle.wr_base.specs.Paths.{is_start, is_rest, is_identifier, is_path}
use Rattle.winmd_rows.specs.Faults.{◌>>=◌}
use Rattle.sig_blobs.specs.Attributes.{value_bytes, first_argument}
use Rattle.sig_blobs.specs.declared.argument.Argument.{Argument}
use Rattle.sig_blobs.specs.declared.argument.Argument.TheVariants.{Number, Words, TypeName, Id}
use Rattle.sig_blobs.specs.declared.argument.ArgumentKind.TheVariants as kinds
use Rattle.sig_blobs.proofs.ValueLaws.{value_again}
use Rattle.winmd_lines.specs.Cells.{path_of}
use Rattle.winmd_lines.proofs.IntegerLaws.{shortest_read}
use Rattle.winmd_sets.specs.Attributes.{placed_at, number_of, id_number, text_of}
use Rattle.winmd_sets.proofs.BlobLaws.{IsPath}

pub number_read : (o n : ℕ) (rest : List Argument) → n < 2 ^ 32 → (placed_at o (first_argument kinds.Number (value_bytes (Number n ∷ rest))) >>= λ a. Ok (number_of a)) ≡ Ok n
number_read o n rest lt = ap (λ (r : Result Argument ImageFault). placed_at o r >>= λ a. Ok (number_of a)) (value_again shortest_read (Number n) rest lt)

pub id_read : (o id : ℕ) (rest : List Argument) → id < 2 ^ 128 → (placed_at o (first_argument kinds.Id (value_bytes (Id id ∷ rest))) >>= λ a. Ok (id_number a)) ≡ Ok id
id_read o id rest lt = ap (λ (r : Result Argument ImageFault). placed_at o r >>= λ a. Ok (id_number a)) (value_again shortest_read (Id id) rest lt)

pub type_read : (o : ℕ) (name : List ℕ) (rest : List Argument) → IsPath name → is_path name ≡ true → length name < 2 ^ 29
    → (placed_at o (first_argument kinds.TypeName (value_bytes (TypeName name ∷ rest))) >>= λ a. path_of o (text_of a)) ≡ Ok name
type_read o name rest short path lt = ap (λ (r : Result Argument ImageFault). placed_at o r >>= λ a. path_of o (text_of a)) (value_again shortest_read (TypeName name) rest (path, lt)) ∙ short o

pub words_read : (o : ℕ) (words : List ℕ) (rest : List Argument) → is_utf8 words ≡ true → length words < 2 ^ 29
    → (placed_at o (first_argument kinds.Words (value_bytes (Words words ∷ rest))) >>= λ a. Ok (text_of a)) ≡ Ok words
words_read o words rest utf8 lt = ap (λ (r : Result Argument ImageFault). placed_at o r >>= λ a. Ok (text_of a)) (value_again shortest_read (Words words) rest (utf8, lt))

-- ---- identifiers are ASCII

rest_low : (b : ℕ) → is_rest b ≡ true → b < 128
rest_low b h = grind arith

start_rest : (b : ℕ) → is_start b ≡ true → is_rest b ≡ true
start_rest b h = rw h refl

rests_low : (bytes : List ℕ) → list_all is_rest bytes ≡ true → IsAscii bytes
rests_low [] h i = omega arith
rests_low (b ∷ bytes) h zero = (let both = and_parts (is_rest b) (list_all is_rest bytes) h in rest_low b both.0)
rests_low (b ∷ bytes) h (suc i) = (let both = and_parts (is_rest b) (list_all is_rest bytes) h in rests_low bytes both.1 i)

identifier_rests : (bytes : List ℕ) → is_identifier bytes ≡ true → list_all is_rest bytes ≡ true
identifier_rests [] h = refl
identifier_rests (b ∷ bytes) h = let both = and_parts (is_start b) (list_all is_rest bytes) h in rw (start_rest b both.0, both.1) refl

pub identifier_utf8 : (name : List ℕ) → is_identifier name ≡ true → is_utf8 name ≡ true
identifier_utf8 name h = is_utf8-from_IsUtf8 name (IsUtf8-from_ascii name (rests_low name (identifier_rests name h)))
