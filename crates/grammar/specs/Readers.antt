-- Readers: from a list of tokens to a value and the tokens after it, or to a fault with the number of tokens that are left.
use Rattle.std.specs.Prelude.{ℕ, zero, suc, Bool, false, if◌then◌else◌, List, [], ◌∷◌, ◌++◌, length, Option, Some, None, Result, Ok, Err}
use Rattle.grammar.specs.Productions.{has}

abbrev pub Read : Type 0 → Type 0 → Type 0 → Type 0
Read E T A = Result (A × List T) (E × ℕ)

-- the next token is of these kinds
abbrev pub starts : {T : Type 0} → (T → ℕ) → List ℕ → List T → Bool
starts kind kinds [] = false
starts kind kinds (t ∷ ts) = has kinds (kind t)

abbrev pub one_at : {E T : Type 0} → (T → ℕ) → List ℕ → E → List T → Read E T T
one_at kind kinds code [] = Err (code, 0)
one_at kind kinds code (t ∷ ts) = if has kinds (kind t) then Ok (t, ts) else Err (code, length (t ∷ ts))

abbrev pub done_at : {E T A : Type 0} → A → List T → Read E T A
done_at x ts = Ok (x, ts)

abbrev pub follow : {E T A B : Type 0} → Read E T A → (A → List T → Read E T B) → Read E T B
follow (Ok x) k = k x.0 x.1
follow (Err f) k = Err f

infixl 10 ◌>>=◌
abbrev pub ◌>>=◌ : {E T A B : Type 0} → (List T → Read E T A) → (A → List T → Read E T B) → List T → Read E T B
(r >>= k) ts = follow (r ts) k

abbrev pub optional_at : {E T A : Type 0} → (T → ℕ) → List ℕ → (List T → Read E T A) → List T → Read E T (Option A)
optional_at kind kinds r ts = if starts kind kinds ts then follow (r ts) (λ x. done_at (Some x)) else Ok (None, ts)

unfoldable pub many_by : {E T A : Type 0} → (T → ℕ) → List ℕ → (List T → Read E T A) → ℕ → List T → Read E T (List A)
many_by kind kinds r zero ts = Ok ([], ts)
many_by kind kinds r (suc n) ts = if starts kind kinds ts then follow (r ts) (λ x. many_by kind kinds r n >>= λ xs. done_at (x ∷ xs)) else Ok ([], ts)

unfoldable pub many_at : {E T A : Type 0} → (T → ℕ) → List ℕ → (List T → Read E T A) → List T → Read E T (List A)
many_at kind kinds r ts = many_by kind kinds r (length ts) ts

abbrev pub either_at : {E T A : Type 0} → (T → ℕ) → List ℕ → (List T → Read E T A) → (List T → Read E T A) → List T → Read E T A
either_at kind kinds r s ts = if starts kind kinds ts then r ts else s ts

-- nothing, unless the next token is of these kinds, which is a fault
abbrev pub bar_at : {E T A : Type 0} → (T → ℕ) → List ℕ → E → A → List T → Read E T A
bar_at kind kinds code x ts = if starts kind kinds ts then Err (code, length ts) else Ok (x, ts)

-- what was read before, and what r reads
abbrev pub after_front : {E T A : Type 0} → List A → (List T → Read E T (List A)) → List T → Read E T (List A)
after_front front r ts = follow (r ts) (λ xs. done_at (front ++ xs))

-- the value of all tokens
abbrev pub end_at : {E T A : Type 0} → E → A → List T → Result A (E × ℕ)
end_at code x [] = Ok x
end_at code x (t ∷ ts) = Err (code, length (t ∷ ts))

abbrev pub ended : {E T A : Type 0} → E → Read E T A → Result A (E × ℕ)
ended code (Ok x) = end_at code x.0 x.1
ended code (Err f) = Err f

abbrev pub all_at : {E T A : Type 0} → (List T → Read E T A) → E → List T → Result A (E × ℕ)
all_at r code ts = ended code (r ts)

unfoldable pub trailing_by : {E T A B : Type 0} → (T → ℕ) → List ℕ → (List T → Read E T B) → List ℕ → (List T → Read E T A) → ℕ → List T → Read E T (List A)
trailing_by kind separators s kinds r zero ts = Ok ([], ts)
trailing_by kind separators s kinds r (suc n) ts =
    if starts kind separators ts
    then follow (s ts) (λ separator us.
    if starts kind kinds us
    then follow (r us) (λ x vs. follow (trailing_by kind separators s kinds r n vs) (λ xs. done_at (x ∷ xs)))
    else Ok ([], us))
    else Ok ([], ts)

unfoldable pub trailing_at : {E T A B : Type 0} → (T → ℕ) → List ℕ → (List T → Read E T B) → List ℕ → (List T → Read E T A) → List T → Read E T (List A)
trailing_at kind separators s kinds r ts = trailing_by kind separators s kinds r (length ts) ts

-- what r reads, unless the next token is of these kinds, which is a fault of its own
abbrev pub refusing_at : {E T A : Type 0} → (T → ℕ) → List ℕ → E → (List T → Read E T A) → List T → Read E T A
refusing_at kind bars code r ts = if starts kind bars ts then Err (code, length ts) else r ts
