-- Counts of names.
use Rattle.std.proofs.Common.{◌≡◌, ℕ, zero, suc, ◌+◌, ◌<◌, Bool, true, false, cond, List, ◌∷◌, ◌++◌, length, refl, sym, ap, ◌∙◌, arith}
use Rattle.std.specs.List.{filter}
use Rattle.std.specs.Str.{bytes_eq}
use Rattle.std.specs.Cmp.Lexicographic.{bytes_decides}
use Rattle.sig_blobs.specs.Templates.{decimal_of}
use Rattle.winmd_sets.specs.Interfaces.{numbered_name, times}

one_way : (p q : Bool) → (p ≡ true → q ≡ true) → (q ≡ true → p ≡ true) → p ≡ q
one_way true q f g = sym (f refl)
one_way false true f g = g refl
one_way false false f g = refl

turned : (a b : List ℕ) → bytes_eq a b ≡ bytes_eq b a
turned a b = one_way (bytes_eq a b) (bytes_eq b a) (λ e. (bytes_decides b a).1 (sym ((bytes_decides a b).0 e))) (λ e. (bytes_decides a b).1 (sym ((bytes_decides b a).0 e)))

one_more : (b : Bool) (name : List ℕ) (rest : List (List ℕ)) → length (cond b (name ∷ rest) rest) ≡ cond b (length rest + 1) (length rest)
one_more true name rest = omega arith
one_more false name rest = refl

same_count : (old : List ℕ → ℕ) (name other : List ℕ) (b : Bool) → bytes_eq name other ≡ b → cond b (old name + 1) (old other) ≡ cond b (old other + 1) (old other)
same_count old name other true e = ap (λ (x : List ℕ). old x + 1) ((bytes_decides name other).0 e)
same_count old name other false e = refl

pub counted : (old new : List ℕ → ℕ) (name : List ℕ) (earlier : List (List ℕ)) → ((other : List ℕ) → new other ≡ cond (bytes_eq name other) (old name + 1) (old other)) → ((text : List ℕ) → old text ≡ times text earlier)
    → (text : List ℕ) → new text ≡ times text (name ∷ earlier)
counted old new name earlier step so_far text =
    step text ∙ same_count old name text (bytes_eq name text) refl ∙ ap (λ (n : ℕ). cond (bytes_eq name text) (n + 1) n) (so_far text)
    ∙ ap (λ (b : Bool). cond b (times text earlier + 1) (times text earlier)) (turned name text) ∙ sym (one_more (bytes_eq text name) name (filter (bytes_eq text) earlier))

pub numbered : (name : List ℕ) (before number : ℕ) → number ≡ before + 1 → 0 < before → name ++ decimal_of number ≡ numbered_name name before
numbered name zero number e h = absurd (omega (arith, h))
numbered name (suc before) number e h = ap (λ (n : ℕ). name ++ decimal_of n) (let f : number ≡ suc (suc before) = omega (arith, e) in f)
