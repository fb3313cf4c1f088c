-- What a reading promises of its success, step by step.
use Rattle.std.proofs.Common.{◌≡◌, ℕ, Bool, true, false, cond, List, [], ◌∷◌, Option, Some, None, Result, Ok, Err, IfOk, refl}
use Rattle.std.specs.List.{AllByRecursion}
use Rattle.md_schema.specs.declared.faults.ImageKind.{ImageKind}
use Rattle.winmd_rows.specs.Faults.{Fault, ◌>>=◌, each, somes, checked}

pub bind : {A B : Type 0} (P : A → Type 0) (Q : B → Type 0) (a : Result A Fault) (f : A → Result B Fault) → IfOk a P → ((x : A) → P x → IfOk (f x) Q) → IfOk (a >>= f) Q
bind P Q (Ok x) f h g = g x h
bind P Q (Err e) f h g = tt

-- where nothing is asked of the first step
pub next : {A B : Type 0} (Q : B → Type 0) (a : Result A Fault) (f : A → Result B Fault) → ((x : A) → IfOk (f x) Q) → IfOk (a >>= f) Q
next Q (Ok x) f g = g x
next Q (Err e) f g = tt

pub tested : (b : Bool) (kind : ImageKind) (offset : ℕ) → IfOk (checked b kind offset) (λ _. b ≡ true)
tested true kind offset = refl
tested false kind offset = tt

pub each_so : {A B : Type 0} (P : B → Type 0) (f : A → Result B Fault) → ((x : A) → IfOk (f x) P) → (xs : List A) → IfOk (each f xs) (AllByRecursion P)
each_so P f h [] = tt
each_so P f h (x ∷ xs) = bind P (AllByRecursion P) (f x) (λ y. each f xs >>= λ ys. Ok (y ∷ ys)) (h x) (λ y p. bind (AllByRecursion P) (AllByRecursion P) (each f xs) (λ ys. Ok (y ∷ ys)) (each_so P f h xs) (λ ys q. (p, q)))

abbrev pub Maybe : {A : Type 0} → (A → Type 0) → Option A → Type 0
Maybe P None = Unit {0}
Maybe P (Some x) = P x

pub somes_so : {A : Type 0} (P : A → Type 0) (xs : List (Option A)) → AllByRecursion (Maybe P) xs → AllByRecursion P (somes xs)
somes_so P [] h = tt
somes_so P (None ∷ xs) h = somes_so P xs h.1
somes_so P (Some x ∷ xs) h = (h.0, somes_so P xs h.1)

pub either : {A : Type 0} (P : A → Type 0) (b : Bool) (x y : Result A Fault) → IfOk x P → IfOk y P → IfOk (cond b x y) P
either P true x y h g = h
either P false x y h g = g
