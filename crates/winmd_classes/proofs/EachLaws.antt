-- A loop over a list that reads one item at each turn, by how many it has passed.
use Rattle.std.proofs.Common.{◌≡◌, ◌+◌, ◌<◌, ℕ, List, [], ◌∷◌, ◌++◌, map, take, drop, length, get_or, Result, Ok, Err, refl, sym, ap, ◌∙◌, add-one}
use Rattle.std.proofs.lemmas.List.{map-append, take_more, take-append-drop}
use Rattle.std.proofs.Math.Seq.{drop-cons}
use Rattle.md_schema.specs.declared.faults.ImageFault.{ImageFault}
use Rattle.ranked.specs.declared.stop.Stop.{Stop}
use Rattle.ranked.specs.declared.stop.Stop.TheVariants as stops
use Rattle.winmd_rows.specs.Faults.{Fault, Faulty, ◌>>=◌, each}
use Rattle.winmd_cells.specs.Given.{Fails}

-- items behind others
abbrev joined : {B : Type 0} → Result (List B) Fault → Result (List B) Fault → Result (List B) Fault
joined front more = front >>= λ ys. more >>= λ zs. Ok (ys ++ zs)

nothing_before : {B : Type 0} (more : Result (List B) Fault) → more ≡ joined (Ok []) more
nothing_before (Ok zs) = refl
nothing_before (Err e) = refl

one_before : {B : Type 0} (first : Result B Fault) (front more : Result (List B) Fault) → (first >>= λ y. joined front more >>= λ ys. Ok (y ∷ ys)) ≡ joined (first >>= λ y. front >>= λ ys. Ok (y ∷ ys)) more
one_before (Err e) front more = refl
one_before (Ok y) (Err e) more = refl
one_before (Ok y) (Ok ys) (Ok zs) = refl
one_before (Ok y) (Ok ys) (Err e) = refl

module _ {A B : Type 0} (f : A → Result B Fault) where
  each_append : (front more : List A) → each f (front ++ more) ≡ joined (each f front) (each f more)
  each_append [] more = nothing_before (each f more)
  each_append (x ∷ front) more = ap (λ (o : Result (List B) Fault). f x >>= λ y. o >>= λ ys. Ok (y ∷ ys)) (each_append front more) ∙ one_before (f x) (each f front) (each f more)

  each_on : (front : List A) (a : A) (ys : List B) (b : B) → each f front ≡ Ok ys → f a ≡ Ok b → each f (front ++ a ∷ []) ≡ Ok (ys ++ b ∷ [])
  each_on front a ys b so_far is =
      each_append front (a ∷ []) ∙ ap (λ (o : Result (List B) Fault). joined o (each f (a ∷ []))) so_far
      ∙ ap (λ (o : Result B Fault). joined (Ok ys) (o >>= λ y. Ok (y ∷ []))) is

  each_stops : (front : List A) (a : A) (more : List A) (ys : List B) (e : Fault) → each f front ≡ Ok ys → f a ≡ Err e → each f (front ++ a ∷ more) ≡ Err e
  each_stops front a more ys e so_far is =
      each_append front (a ∷ more) ∙ ap (λ (o : Result (List B) Fault). joined o (each f (a ∷ more))) so_far
      ∙ ap (λ (o : Result B Fault). joined (Ok ys) (o >>= λ y. each f more >>= λ ys. Ok (y ∷ ys))) is

-- items of the code, seen as the definitions have them
module _ {X A B : Type 0} (f : A → Result B Fault) (view : X → A) (xs : List X) (i : ℕ) (d : X) (within : i < length xs) where
  whole : take i xs ++ get_or xs i d ∷ drop (i + 1) xs ≡ xs
  whole = ap (λ (rest : List X). take i xs ++ rest) (rw (add-one i) (sym (drop-cons xs i d within))) ∙ take-append-drop i xs

  -- one item more
  pub each_next : (items new : List B) (y : B) → each f (map view (take i xs)) ≡ Ok items → f (view (get_or xs i d)) ≡ Ok y → new ≡ items ++ y ∷ [] → each f (map view (take (i + 1) xs)) ≡ Ok new
  each_next items new y so_far is pushed =
      ap (each f) (ap (map view) (take_more xs i d within) ∙ map-append view (take i xs) (get_or xs i d ∷ []))
      ∙ each_on f (map view (take i xs)) (view (get_or xs i d)) items y so_far is
      ∙ ap (λ (ys : List B). Ok ys) (sym pushed)

  -- the same where what was read is seen as the definitions have it
  pub each_more : {Y : Type 0} (look : Y → B) (items new : List Y) (y : Y) → each f (map view (take i xs)) ≡ Ok (map look items) → f (view (get_or xs i d)) ≡ Ok (look y) → new ≡ items ++ y ∷ []
      → each f (map view (take (i + 1) xs)) ≡ Ok (map look new)
  each_more look items new y so_far is pushed = each_next (map look items) (map look new) (look y) so_far is (ap (map look) pushed ∙ map-append look items (y ∷ []))

  -- an item that isn't read
  pub each_fails : (items : List B) (e : Stop ImageFault) → each f (map view (take i xs)) ≡ Ok items → Fails e (f (view (get_or xs i d))) → Fails e (each f (map view xs))
  each_fails items stops.Memory so_far is = tt
  each_fails items (stops.Refused fault) so_far is =
      ap (λ (all : List X). each f (map view all)) (sym whole) ∙ ap (each f) (map-append view (take i xs) (get_or xs i d ∷ drop (i + 1) xs))
      ∙ each_stops f (map view (take i xs)) (view (get_or xs i d)) (map view (drop (i + 1) xs)) items (Faulty fault) so_far is
