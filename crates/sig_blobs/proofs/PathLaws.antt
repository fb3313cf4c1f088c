-- A path is UTF-8, and has no comma.
use Rattle.std.proofs.Common.{◌≡◌, ℕ, zero, suc, ◌<◌, Bool, true, false, List, [], ◌∷◌, length, take, refl, ap, subst, ◌∙◌, arith, inl, inr, eqb-true}
use Rattle.std.specs.Prelude.{◌==◌, ◌&&◌, ◌⊎◌}
use Rattle.std.specs.List.{list_all, slice_split, onto_first, before_first, position_or_len}
use Rattle.std.specs.Str.{IsAscii, is_utf8}
use Rattle.std.proofs.lemmas.Str.{IsUtf8-from_ascii, is_utf8-from_IsUtf8}
use Rattle.std.proofs.lemmas.List.{take_all}
use Rattle.std.proofs.lemmas.List.Splits.{slice_split-cons_yes, slice_split-cons_no}
use Rattle.std.proofs.lemmas.Bool.{false_from_ne_true}
use Rattle.wr_base.specs.Paths.{is_start, is_rest, is_identifier, parts_of, is_path}

-- each byte is ASCII and no comma
abbrev Small : List ℕ → Type 0
Small [] = Unit {0}
Small (b ∷ bytes) = (b < 128) × ((b == 44) ≡ false) × Small bytes

either : (b : Bool) → (b ≡ true) ⊎ (b ≡ false)
either true = inl refl
either false = inr refl

both : (a b : Bool) → (a && b) ≡ true → (a ≡ true) × (b ≡ true)
both true b h = (refl, h)
both false b h = absurd cc

clash : false ≡ true → ⊥
clash e = cc

rest_low : (b : ℕ) → is_rest b ≡ true → b < 128
rest_low b h = grind arith

rest_no_comma : (b : ℕ) → is_rest b ≡ true → (b == 44) ≡ false
rest_no_comma b h = false_from_ne_true (b == 44) (λ t. clash (subst (λ (x : ℕ). is_rest x ≡ true) (eqb-true b 44 t) h))

ident_rests : (parts : List (List ℕ)) → list_all is_identifier parts ≡ true → list_all (list_all is_rest) parts ≡ true
ident_rests [] h = refl
ident_rests ([] ∷ parts) h = absurd (clash h)
ident_rests ((b ∷ bytes) ∷ parts) h =
    let two = both (is_identifier (b ∷ bytes)) (list_all is_identifier parts) h in
    let one = both (is_start b) (list_all is_rest bytes) two.0 in
    rw (one.0, one.1, ident_rests parts two.1) refl

onto_rests : (x : ℕ) (parts : List (List ℕ)) → list_all (list_all is_rest) (onto_first x parts) ≡ true → (is_rest x ≡ true) × (list_all (list_all is_rest) parts ≡ true)
onto_rests x [] h = let two = both (list_all is_rest (x ∷ [])) true h in let one = both (is_rest x) true two.0 in (one.0, refl)
onto_rests x (part ∷ parts) h =
    let two = both (list_all is_rest (x ∷ part)) (list_all (list_all is_rest) parts) h in
    let one = both (is_rest x) (list_all is_rest part) two.0 in
    (one.0, rw (one.1, two.1) refl)

split_small : (bytes : List ℕ) → list_all (list_all is_rest) (slice_split (λ b. b == 46) bytes) ≡ true → Small bytes
split_small [] h = tt
split_small (x ∷ xs) h =
    elim (either (x == 46)) [
      | inl e ↦
          (let dot : x ≡ 46 = eqb-true x 46 e in
          let others : list_all (list_all is_rest) (slice_split (λ b. b == 46) xs) ≡ true = rw (slice_split-cons_yes (λ b. b == 46) x xs e) at h in
          (omega (arith, dot), rw dot refl, split_small xs others))
      | inr e ↦
          (let two = onto_rests x (slice_split (λ b. b == 46) xs) (rw (slice_split-cons_no (λ b. b == 46) x xs e) at h) in
          (rest_low x two.0, rest_no_comma x two.0, split_small xs two.1))
    ]

path_small : (name : List ℕ) → is_path name ≡ true → Small name
path_small name h = split_small name (ident_rests (parts_of name) (both _ (list_all is_identifier (parts_of name)) h).1)

ascii_of : (bytes : List ℕ) → Small bytes → IsAscii bytes
ascii_of [] s i = omega arith
ascii_of (b ∷ bytes) s zero = s.0
ascii_of (b ∷ bytes) s (suc i) = ascii_of bytes s.2 i

pub path_utf8 : (name : List ℕ) → is_path name ≡ true → is_utf8 name ≡ true
path_utf8 name h = is_utf8-from_IsUtf8 name (IsUtf8-from_ascii name (ascii_of name (path_small name h)))

no_comma : (bytes : List ℕ) → Small bytes → position_or_len (λ b. b == 44) bytes ≡ length bytes
no_comma [] s = refl
no_comma (b ∷ bytes) s = let more = no_comma bytes s.2 in rw (s.1, more) (omega arith)

pub path_whole : (name : List ℕ) → is_path name ≡ true → before_first (λ b. b == 44) name ≡ name
path_whole name h = ap (λ (k : ℕ). take k name) (no_comma name (path_small name h)) ∙ take_all (length name) name (omega arith)
