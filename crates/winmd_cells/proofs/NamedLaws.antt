-- A text that is two parts with a dot between them.
use Rattle.std.proofs.Common.{◌≡◌, ◌&&◌, ◌==◌, ℕ, Bool, true, false, List, [], ◌∷◌, ◌++◌, take, drop, length, refl, ap, sym, ◌∙◌, arith}
use Rattle.std.specs.Str.{bytes_eq}

and_assoc : (a b c : Bool) → ((a && b) && c) ≡ (a && (b && c))
and_assoc true b c = refl
and_assoc false b c = refl

turned : (b c : ℕ) → (b == c) ≡ (c == b)
turned b c = grind arith

joined_eq : (space rest text : List ℕ) → bytes_eq (space ++ rest) text ≡ (bytes_eq (take (length space) text) space && bytes_eq rest (drop (length space) text))
joined_eq [] rest text = refl
joined_eq (b ∷ space) rest [] = refl
joined_eq (b ∷ space) rest (c ∷ text) =
    ap (λ x. (b == c) && x) (joined_eq space rest text) ∙ sym (and_assoc (b == c) (bytes_eq (take (length space) text) space) (bytes_eq rest (drop (length space) text)))
    ∙ ap (λ x. (x && bytes_eq (take (length space) text) space) && bytes_eq rest (drop (length space) text)) (turned b c)

pub joined_apart : (space rest text : List ℕ) → bytes_eq (take (length space) text) space ≡ false → bytes_eq (space ++ rest) text ≡ false
joined_apart space rest text h = joined_eq space rest text ∙ ap (λ b. b && bytes_eq rest (drop (length space) text)) h

pub joined_on : (space rest text : List ℕ) → bytes_eq (take (length space) text) space ≡ true → bytes_eq (space ++ rest) text ≡ bytes_eq rest (drop (length space) text)
joined_on space rest text h = joined_eq space rest text ∙ ap (λ b. b && bytes_eq rest (drop (length space) text)) h
