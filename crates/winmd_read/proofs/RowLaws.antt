-- One row more.
use Rattle.std.proofs.Common.{◌≡◌, List, [], ◌∷◌, ◌++◌, Option, Some, None, Result, Ok, Err, refl, sym, ap, ◌∙◌, append_assoc}
use Rattle.winmd_rows.specs.Faults.{Fault, ◌>>=◌, each, somes}
use Rattle.winmd_source.specs.Behind.{behind}

-- what is found of each, of those of which something is
abbrev found : {A B : Type 0} → (A → Result (Option B) Fault) → List A → Result (List B) Fault
found f xs = each f xs >>= λ ys. Ok (somes ys)

regroup : {B : Type 0} (front : List B) (o : Option B) (others : Result (List (Option B)) Fault)
    → behind front ((others >>= λ ys. Ok (o ∷ ys)) >>= λ ys. Ok (somes ys)) ≡ behind (front ++ somes (o ∷ [])) (others >>= λ ys. Ok (somes ys))
regroup front None (Ok ys) = ap (λ xs. Ok xs) (sym (append_assoc front [] (somes ys)))
regroup front (Some x) (Ok ys) = ap (λ xs. Ok xs) (sym (append_assoc front (x ∷ []) (somes ys)))
regroup front o (Err e) = refl

goes_on : {A B : Type 0} (f : A → Result (Option B) Fault) (front : List B) (a : A) (o : Option B) (more : List A) (whole : Result (List B) Fault)
    → f a ≡ Ok o → behind front (found f (a ∷ more)) ≡ whole → behind (front ++ somes (o ∷ [])) (found f more) ≡ whole
goes_on f front a o more whole was so_far = sym (regroup front o (each f more)) ∙ rw was at so_far

pub turn : {A B : Type 0} (f : A → Result (Option B) Fault) (front new : List B) (o : Option B) (a : A) (more rest : List A) (whole : Result (List B) Fault)
    → rest ≡ a ∷ more → f a ≡ Ok o → new ≡ front ++ somes (o ∷ []) → behind front (each f rest >>= λ ys. Ok (somes ys)) ≡ whole → behind new (each f more >>= λ ys. Ok (somes ys)) ≡ whole
turn f front new o a more rest whole here was added so_far =
    ap (λ xs. behind xs (found f more)) added ∙ goes_on f front a o more whole was (ap (λ xs. behind front (found f xs)) (sym here) ∙ so_far)
