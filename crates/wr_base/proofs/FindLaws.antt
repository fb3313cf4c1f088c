-- Tables of places, name by name.
use Rattle.std.proofs.Common.{◌≡◌, ◌<◌, ◌+◌, ℕ, zero, suc, true, false, cond, List, [], ◌∷◌, ◌++◌, Option, Some, None, ◌⊎◌, inl, inr, ⊎_elim, length, take, map, get_or, Contains, refl, sym, ap, subst, ◌∙◌, arith}
use Rattle.std.specs.List.{slice_get}
use Rattle.std.specs.Map.{update}
use Rattle.std.specs.Str.{bytes_eq}
use Rattle.std.specs.Cmp.Lexicographic.{bytes_decides}
use Rattle.std.proofs.lemmas.List.{take_more, length-map, get_or-map, length-take-le}
use Rattle.std.proofs.lemmas.Option.{none-some, same_Some, slice_get-get_or}
use Rattle.wr_base.specs.Finding.{Finds}

get_left : {X : Type 0} (xs ys : List X) (k : ℕ) (x : X) → slice_get xs k ≡ Some x → slice_get (xs ++ ys) k ≡ Some x
get_left [] ys k x e = absurd (none-some x e)
get_left (y ∷ xs) ys zero x e = e
get_left (y ∷ xs) ys (suc k) x e = get_left xs ys k x e

get_last : {X : Type 0} (xs : List X) (x : X) → slice_get (xs ++ x ∷ []) (length xs) ≡ Some x
get_last [] x = refl
get_last (y ∷ xs) x = get_last xs x

get_split : {X : Type 0} (xs : List X) (y : X) (k : ℕ) (x : X) → slice_get (xs ++ y ∷ []) k ≡ Some x → (slice_get xs k ≡ Some x) ⊎ (y ≡ x)
get_split [] y zero x e = inr (same_Some y x e)
get_split [] y (suc k) x e = absurd (none-some x e)
get_split (z ∷ xs) y zero x e = inl e
get_split (z ∷ xs) y (suc k) x e = get_split xs y k x e

-- a name more
module _ (names : List (List ℕ)) (name : List ℕ) (f g : List ℕ → Option ℕ) (u : (q : List ℕ) → g q ≡ update bytes_eq f name (Some (length names)) q) (h : Finds names f) where
  split : (q : List ℕ) → ((name ≡ q) × (g q ≡ Some (length names))) ⊎ ((bytes_eq name q ≡ false) × (g q ≡ f q))
  split q = elim (bytes_eq name q) as (λ b. bytes_eq name q ≡ b → ((name ≡ q) × (g q ≡ Some (length names))) ⊎ ((bytes_eq name q ≡ false) × (g q ≡ f q))) [
    | true ↦ λ e. inl ((bytes_decides name q).0 e, u q ∙ ap (λ b. cond b (Some (length names)) (f q)) e)
    | false ↦ λ e. inr (e, u q ∙ ap (λ b. cond b (Some (length names)) (f q)) e)
  ] refl

  pub finds_more : Finds (names ++ name ∷ []) g
  finds_more = record {
    found = λ q k e. ⊎_elim
        (λ a. (let same : length names ≡ k = same_Some (length names) k (sym a.1 ∙ e) in
        subst (λ (i : ℕ). slice_get (names ++ name ∷ []) i ≡ Some q) same (get_last names name ∙ ap (λ (n : List ℕ). Some n) a.0)))
        (λ a. get_left names (name ∷ []) k q (h.found q k (sym a.1 ∙ e)))
        (split q);
    absent = λ q k e in_. ⊎_elim
        (λ a. absurd (none-some (length names) (sym e ∙ a.1)))
        (λ a. ⊎_elim (λ b. h.absent q k (sym a.1 ∙ e) b) (λ b. cc (a.0, (bytes_decides name q).1 b)) (get_split names name k q in_))
        (split q);
  }

pub finds_nothing : (f : List ℕ → Option ℕ) → ((q : List ℕ) → f q ≡ None) → Finds [] f
finds_nothing f h = record {
  found = λ q k e. absurd (none-some k (sym (h q) ∙ e));
  absent = λ q k e in_. none-some q in_;
}

-- the place of one of the names, as it is put into the table
pub finds_next : {X : Type 0} (key : X → List ℕ) (xs : List X) (i : ℕ) (x : X) (f g : List ℕ → Option ℕ) → i < length xs → x ≡ get_or xs i x
    → ((q : List ℕ) → g q ≡ update bytes_eq f (key x) (Some i) q) → Finds (take i (map key xs)) f → Finds (take (i + 1) (map key xs)) g
finds_next key xs i x f g l e u h =
    let names : List (List ℕ) = map key xs in
    let low : i < length names = omega (arith, l, length-map xs key) in
    let size : length (take i names) ≡ i = length-take-le i names (omega (arith, low)) in
    let here : get_or names i (key x) ≡ key x = get_or-map key xs i x (key x) l ∙ ap key (sym e) in
    subst (λ (n : List (List ℕ)). Finds n g) (ap (λ (n : List ℕ). take i names ++ n ∷ []) (sym here) ∙ sym (take_more names i (key x) low))
    (finds_more (take i names) (key x) f g (λ q. u q ∙ ap (λ (k : ℕ). update bytes_eq f (key x) (Some k) q) (sym size)) h)

-- what isn't found is none of the names
pub not_among : (names : List (List ℕ)) (f : List ℕ → Option ℕ) (name : List ℕ) → Finds names f → f name ≡ None → Contains names name → ⊥
not_among names f name h e (k, l, is) = h.absent name k e (slice_get-get_or names k name l ∙ ap Some is)
