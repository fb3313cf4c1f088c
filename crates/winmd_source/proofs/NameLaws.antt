-- Names that pass the tests are texts.
use Rattle.std.proofs.Common.{◌≡◌, ℕ, zero, suc, ◌<◌, Bool, true, false, List, [], ◌∷◌, length, nat_le, Ok, refl, subst, arith}
use Rattle.std.specs.Prelude.{◌&&◌, IsTrue}
use Rattle.std.specs.List.{list_all}
use Rattle.std.specs.Str.{IsAscii, IsUtf8}
use Rattle.std.proofs.lemmas.Str.{IsUtf8-from_is_utf8}
use Rattle.md_schema.specs.declared.faults.ImageKind.TheVariants.{BadShape, PastLimit}
use Rattle.wr_base.specs.Paths.{is_start, is_rest, is_identifier, is_path, is_short_name}
use Rattle.sig_blobs.proofs.PathLaws.{path_utf8}
use Rattle.winmd_rows.specs.Faults.{◌>>=◌, checked}
use Rattle.winmd_lines.specs.Cells.{identifier_of, path_of}

both : (a b : Bool) → (a && b) ≡ true → (a ≡ true) × (b ≡ true)
both true b h = (refl, h)
both false b h = absurd cc

rest_low : (b : ℕ) → is_rest b ≡ true → b < 128
rest_low b h = grind arith

start_low : (b : ℕ) → is_start b ≡ true → b < 128
start_low b h = grind arith

rests_low : (bytes : List ℕ) → list_all is_rest bytes ≡ true → IsAscii bytes
rests_low [] h i = omega arith
rests_low (b ∷ bytes) h zero = rest_low b (both (is_rest b) (list_all is_rest bytes) h).0
rests_low (b ∷ bytes) h (suc i) = rests_low bytes (both (is_rest b) (list_all is_rest bytes) h).1 i

ascii_of : (bytes : List ℕ) → is_identifier bytes ≡ true → IsAscii bytes
ascii_of [] h i = absurd (let no : false ≡ true = h in cc)
ascii_of (b ∷ bytes) h zero = start_low b (both (is_start b) (list_all is_rest bytes) h).0
ascii_of (b ∷ bytes) h (suc i) = rests_low bytes (both (is_start b) (list_all is_rest bytes) h).1 i

-- what two tests let through
let_through : (a b : Bool) (bytes name : List ℕ) (offset : ℕ) → (checked a BadShape offset >>= λ one. checked b PastLimit offset >>= λ two. Ok bytes) ≡ Ok name → (a ≡ true) × (bytes ≡ name)
let_through true true bytes name offset h = grind arith
let_through true false bytes name offset h = absurd cc
let_through false b bytes name offset h = absurd cc

pub identifier_ascii : (most offset : ℕ) (bytes name : List ℕ) → identifier_of most offset bytes ≡ Ok name → IsAscii name
identifier_ascii most offset bytes name h =
    let two = let_through (is_identifier bytes) (nat_le (length bytes) most) bytes name offset h in
    subst IsAscii two.1 (ascii_of bytes two.0)

pub path_is : (offset : ℕ) (bytes name : List ℕ) → path_of offset bytes ≡ Ok name → IsTrue (is_path name)
path_is offset bytes name h =
    let two = let_through (is_path bytes) (is_short_name bytes) bytes name offset h in
    subst (λ (x : List ℕ). IsTrue (is_path x)) two.1 (search two.0)

pub path_text : (offset : ℕ) (bytes name : List ℕ) → path_of offset bytes ≡ Ok name → IsUtf8 name
path_text offset bytes name h =
    let two = let_through (is_path bytes) (is_short_name bytes) bytes name offset h in
    subst IsUtf8 two.1 (IsUtf8-from_is_utf8 bytes (path_utf8 bytes two.0))
