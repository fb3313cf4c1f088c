-- A loop that reads one item at each turn.
use Rattle.std.proofs.Common.{◌≡◌, List, [], ◌∷◌, ◌++◌, map, Result, Ok, Err, refl, sym, ap, ◌∙◌, append_assoc}
use Rattle.std.proofs.lemmas.List.{map-append}
use Rattle.winmd_rows.specs.Faults.{Fault, ◌>>=◌, each}
use Rattle.winmd_source.specs.Behind.{behind}

regroup : {A : Type 0} (front : List A) (y : A) (o : Result (List A) Fault) → ((o >>= λ ys. Ok (y ∷ ys)) >>= λ xs. Ok (front ++ xs)) ≡ behind (front ++ y ∷ []) o
regroup front y (Ok ys) = ap (λ xs. Ok xs) (sym (append_assoc front (y ∷ []) ys))
regroup front y (Err e) = refl

goes_on : {A B : Type 0} (f : A → Result B Fault) (front : List B) (a : A) (b : B) (more : List A) (whole : Result (List B) Fault) → f a ≡ Ok b → behind front (each f (a ∷ more)) ≡ whole → behind (front ++ b ∷ []) (each f more) ≡ whole
goes_on f front a b more whole was so_far = sym (regroup front b (each f more)) ∙ rw was at so_far

-- one item more
pub turn : {X A B : Type 0} (f : A → Result B Fault) (view : X → B) (items new : List X) (x : X) (a : A) (more rest : List A) (whole : Result (List B) Fault)
    → rest ≡ a ∷ more → f a ≡ Ok (view x) → new ≡ items ++ x ∷ [] → behind (map view items) (each f rest) ≡ whole → behind (map view new) (each f more) ≡ whole
turn f view items new x a more rest whole here was pushed so_far =
    ap (λ xs. behind xs (each f more)) (ap (map view) pushed ∙ map-append view items (x ∷ []))
    ∙ goes_on f (map view items) a (view x) more whole was (ap (λ xs. behind (map view items) (each f xs)) (sym here) ∙ so_far)
