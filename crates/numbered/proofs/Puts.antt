-- Numbers that are put behind numbers.
use Rattle.std.proofs.Common.{◌≡◌, ◌<◌, ◌+◌, ℕ, true, false, cond, List, [], ◌∷◌, ◌++◌, Option, Some, None, Result, Ok, Err, OnOk, ◌⊎◌, inl, inr, ⊎_elim, map, length, take, get_or, refl, sym, ap, subst, ◌∙◌, arith, append_assoc, append-nil}
use Rattle.std.specs.List.{flat_map}
use Rattle.std.specs.Map.{update}
use Rattle.std.specs.Str.{bytes_eq}
use Rattle.std.specs.Cmp.Lexicographic.{bytes_decides}
use Rattle.std.proofs.lemmas.List.{take_more}
use Rattle.std.proofs.lemmas.Option.{none-some, same_Some}
use Rattle.numbered.specs.Numbers.{IsNumbering, Kept, NumbersBy, PutBy}

-- a text more
module _ (f g : List ℕ → Option ℕ) (n : ℕ) (t : List ℕ) (new : f t ≡ None) (h : IsNumbering f n) (u : (q : List ℕ) → g q ≡ update bytes_eq f t (Some n) q) where
  pub split : (q : List ℕ) → ((t ≡ q) × (g q ≡ Some n)) ⊎ (g q ≡ f q)
  split q = elim (bytes_eq t q) as (λ b. bytes_eq t q ≡ b → ((t ≡ q) × (g q ≡ Some n)) ⊎ (g q ≡ f q)) [
    | true ↦ λ e. inl ((bytes_decides t q).0 e, u q ∙ ap (λ b. cond b (Some n) (f q)) e)
    | false ↦ λ e. inr (u q ∙ ap (λ b. cond b (Some n) (f q)) e)
  ] refl

  pub text_here : g t ≡ Some n
  text_here = u t ∙ ap (λ b. cond b (Some n) (f t)) ((bytes_decides t t).1 refl)

  pub text_kept : Kept f g
  text_kept q k e = ⊎_elim (λ a. absurd (none-some k (sym new ∙ (ap f a.0 ∙ e)))) (λ a. a ∙ e) (split q)

  pub text_only : (q : List ℕ) (k : ℕ) → g q ≡ Some k → (t ≡ q) ⊎ (f q ≡ Some k)
  text_only q k e = ⊎_elim (λ a. inl a.0) (λ a. inr (sym a ∙ e)) (split q)

  pub text_more : IsNumbering g (n + 1)
  text_more = record {
    within = λ q k e. ⊎_elim (λ a. (let s : n ≡ k = same_Some n k (sym a.1 ∙ e) in omega (arith, s))) (λ a. (let w = h.within q k (sym a ∙ e) in omega (arith, w))) (split q);
    apart = λ p q k e d. ⊎_elim
        (λ a. ⊎_elim (λ b. sym a.0 ∙ b.0) (λ b. (let s : n ≡ k = same_Some n k (sym a.1 ∙ e) in let w = h.within q k (sym b ∙ d) in absurd (omega (arith, s, w)))) (split q))
        (λ a. ⊎_elim (λ b. (let s : n ≡ k = same_Some n k (sym b.1 ∙ d) in let w = h.within p k (sym a ∙ e) in absurd (omega (arith, s, w)))) (λ b. h.apart p q k (sym a ∙ e) (sym b ∙ d)) (split q))
        (split p);
  }

pub kept_itself : (f : List ℕ → Option ℕ) → Kept f f
kept_itself f t k e = e

pub kept_on : (f g h : List ℕ → Option ℕ) → Kept f g → Kept g h → Kept f h
kept_on f g h a b t k e = b t k (a t k e)

pub head_same : {X : Type 0} (x y : X) (xs ys : List X) → x ∷ xs ≡ y ∷ ys → x ≡ y
head_same x y xs ys e = ap (λ l. get_or l 0 x) e

abbrev pub tail_of : {X : Type 0} → List X → List X
tail_of [] = []
tail_of (x ∷ xs) = xs

pub kept_numbers : (key : List ℕ → List ℕ) (g h : List ℕ → Option ℕ) (names : List (List ℕ)) (list : List ℕ) → Kept g h → NumbersBy key g names list → NumbersBy key h names list
kept_numbers key g h [] [] k e = refl
kept_numbers key g h [] (x ∷ xs) k e = cc
kept_numbers key g h (n ∷ ns) [] k e = cc
kept_numbers key g h (n ∷ ns) (x ∷ xs) k e =
    ap (λ (o : Option ℕ). o ∷ map (λ m. h (key m)) ns) (k (key n) x (head_same (g (key n)) (Some x) (map (λ m. g (key m)) ns) (map (λ y. Some y) xs) e))
    ∙ ap (λ (os : List (Option ℕ)). Some x ∷ os) (kept_numbers key g h ns xs k (ap tail_of e))

pub map_both : {X Y : Type 0} (f : X → Y) (xs ys : List X) → map f (xs ++ ys) ≡ map f xs ++ map f ys
map_both f [] ys = refl
map_both f (x ∷ xs) ys = ap (λ l. f x ∷ l) (map_both f xs ys)

module _ (key : List ℕ → List ℕ) where
  pub by_none : (W : Type 0) (f : List ℕ → Option ℕ) (old : List ℕ) → W → PutBy key W f f [] old old
  by_none W f old h = record { whole = h; kept = kept_itself f; extra = []; behind = sym (append-nil old); numbers = refl }

  pub by_one : (W : Type 0) (f g : List ℕ → Option ℕ) (k : ℕ) (name : List ℕ) (old new : List ℕ) → W → Kept f g → g (key name) ≡ Some k → new ≡ old ++ k ∷ [] → PutBy key W f g (name ∷ []) old new
  by_one W f g k name old new h kept e is = record { whole = h; kept = kept; extra = k ∷ []; behind = is; numbers = ap (λ (o : Option ℕ). o ∷ []) e }

  pub by_then : (V W : Type 0) (f g h : List ℕ → Option ℕ) (A B : List (List ℕ)) (old mid new : List ℕ) → PutBy key V f g A old mid → PutBy key W g h B mid new → PutBy key W f h (A ++ B) old new
  by_then V W f g h A B old mid new a b = record {
    whole = b.whole;
    kept = kept_on f g h a.kept b.kept;
    extra = a.extra ++ b.extra;
    behind = b.behind ∙ ap (λ l. l ++ b.extra) a.behind ∙ append_assoc old a.extra b.extra;
    numbers = map_both (λ x. h (key x)) A B
        ∙ ap (λ l. l ++ map (λ x. h (key x)) B) (kept_numbers key g h A a.extra b.kept a.numbers)
        ∙ ap (λ l. map (λ y. Some y) a.extra ++ l) b.numbers
        ∙ sym (map_both (λ y. Some y) a.extra b.extra);
  }

pub on_ok_then : {X E : Type 0} (P Q : Type 0) → (P → Q) → (r : Result X E) → OnOk r P → OnOk r Q
on_ok_then P Q f (Ok x) h = f h
on_ok_then P Q f (Err e) h = h

pub flat_both : {X : Type 0} (f : X → List (List ℕ)) (xs ys : List X) → flat_map f (xs ++ ys) ≡ flat_map f xs ++ flat_map f ys
flat_both f [] ys = refl
flat_both f (x ∷ xs) ys = ap (λ t. f x ++ t) (flat_both f xs ys) ∙ sym (append_assoc (f x) (flat_map f xs) (flat_map f ys))

pub flat_more : {X : Type 0} (f : X → List (List ℕ)) (xs : List X) (i : ℕ) (d : X) → i < length xs → flat_map f (take (i + 1) xs) ≡ flat_map f (take i xs) ++ f (get_or xs i d)
flat_more f xs i d l = ap (flat_map f) (take_more xs i d l) ∙ flat_both f (take i xs) (get_or xs i d ∷ []) ∙ ap (λ t. flat_map f (take i xs) ++ t) (append-nil (f (get_or xs i d)))

pub flat_over : {X Y : Type 0} (f : Y → List (List ℕ)) (g : X → Y) (xs : List X) → flat_map (λ x. f (g x)) xs ≡ flat_map f (map g xs)
flat_over f g [] = refl
flat_over f g (x ∷ xs) = ap (λ t. f (g x) ++ t) (flat_over f g xs)

pub texts_turn : {X : Type 0} (f : X → List ℕ) (xs : List X) (i : ℕ) (x : X) → i < length xs → x ≡ get_or xs i x → (P : List (List ℕ) → Type 0) → P (map f (take i xs) ++ f x ∷ []) → P (map f (take (i + 1) xs))
texts_turn f xs i x l e P h = subst P (sym (ap (map f) (take_more xs i x l) ∙ map_both f (take i xs) (get_or xs i x ∷ []) ∙ ap (λ y. map f (take i xs) ++ f y ∷ []) (sym e))) h

pub names_turn : (xs : List (List ℕ)) (i : ℕ) (x : List ℕ) → i < length xs → x ≡ get_or xs i x → (P : List (List ℕ) → Type 0) → P (take i xs ++ x ∷ []) → P (take (i + 1) xs)
names_turn xs i x l e P h = subst P (sym (take_more xs i x l ∙ ap (λ y. take i xs ++ y ∷ []) (sym e))) h

pub by_then_ok : {X E : Type 0} (r : Result X E) (key : List ℕ → List ℕ) (V W : Type 0) (f g h : List ℕ → Option ℕ) (A B : List (List ℕ)) (old mid new : List ℕ)
    → PutBy key V f g A old mid → OnOk r (PutBy key W g h B mid new) → OnOk r (PutBy key W f h (A ++ B) old new)
by_then_ok r key V W f g h A B old mid new a o = on_ok_then (PutBy key W g h B mid new) (PutBy key W f h (A ++ B) old new) (by_then key V W f g h A B old mid new a) r o
