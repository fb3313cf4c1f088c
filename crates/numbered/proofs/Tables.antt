-- One text more.
use Rattle.std.proofs.Common.{◌≡◌, ◌<◌, ◌+◌, ℕ, zero, suc, List, [], ◌∷◌, ◌++◌, Option, Some, ◌⊎◌, inl, inr, ⊎_elim, map, length, length-append, refl, sym, ap, subst, ◌∙◌, arith}
use Rattle.std.proofs.lemmas.Option.{same_Some}
use Rattle.chains.specs.Graphs.{In, steps_of}
use Rattle.chains.proofs.Marking.{same_or_not}
use Rattle.numbered.specs.Numbers.{IsNumbering, NumbersBy, PutBy}
use Rattle.numbered.specs.Tables.{Known}
use Rattle.numbered.proofs.Puts.{kept_numbers, head_same, tail_of}

pub steps_left : (owned : List (List ℕ)) (list : List ℕ) (a : ℕ) → a < length owned → steps_of (owned ++ list ∷ []) a ≡ steps_of owned a
steps_left [] list a l = absurd (omega (arith, l))
steps_left (o ∷ os) list zero l = refl
steps_left (o ∷ os) list (suc a) l = steps_left os list a (omega (arith, l))

pub steps_last : (owned : List (List ℕ)) (list : List ℕ) → steps_of (owned ++ list ∷ []) (length owned) ≡ list
steps_last [] list = refl
steps_last (o ∷ os) list = steps_last os list

pub steps_past : (owned : List (List ℕ)) (a x : ℕ) → In x (steps_of owned a) → a < length owned
steps_past [] a x h = absurd h
steps_past (o ∷ os) zero x h = omega arith
steps_past (o ∷ os) (suc a) x h = let l = steps_past os a x h in omega (arith, l)

-- each of a list of numbers is a text's
pub number_of_one : (key : List ℕ → List ℕ) (f : List ℕ → Option ℕ) (texts : List (List ℕ)) (list : List ℕ) (x : ℕ) → NumbersBy key f texts list → In x list → (t : List ℕ) × (f t ≡ Some x)
number_of_one key f texts [] x e h = absurd h
number_of_one key f [] (y ∷ ys) x e h = cc
number_of_one key f (t ∷ ts) (y ∷ ys) x e (inl q) = (key t, head_same (f (key t)) (Some y) (map (λ m. f (key m)) ts) (map (λ z. Some z) ys) e ∙ ap (λ z. Some z) q)
number_of_one key f (t ∷ ts) (y ∷ ys) x e (inr h) = number_of_one key f ts ys x (ap tail_of e) h

module _ (own : List ℕ → List (List ℕ)) (key : List ℕ → List ℕ) (T T2 : List ℕ → Option ℕ) (n n2 : ℕ) (N N2 : List ℕ → Option ℕ) (m m2 : ℕ) (owned : List (List ℕ)) (text : List ℕ) (list : List ℕ)
    (k : Known own key T n N m owned) (p : PutBy key (IsNumbering N2 m2) N N2 (own text) [] list)
    (numbering : IsNumbering T2 n2) (here : T2 text ≡ Some n) (count : n2 ≡ n + 1)
    (only : (q : List ℕ) (j : ℕ) → T2 q ≡ Some j → (text ≡ q) ⊎ (T q ≡ Some j)) where
  new_owns : NumbersBy key N2 (own text) (steps_of (owned ++ list ∷ []) n)
  new_owns = subst (NumbersBy key N2 (own text)) (sym (ap (steps_of (owned ++ list ∷ [])) k.size ∙ steps_last owned list ∙ p.behind)) p.numbers

  pub known_more : Known own key T2 n2 N2 m2 (owned ++ list ∷ [])
  known_more = record {
    of_texts = numbering;
    of_names = p.whole;
    size = let s = k.size in omega (arith, s, count, length-append owned (list ∷ []));
    owns = λ t j e. ⊎_elim
        (λ q. (let same : n ≡ j = same_Some n j (sym here ∙ (ap T2 q ∙ e)) in subst (λ i. NumbersBy key N2 (own t) (steps_of (owned ++ list ∷ []) i)) same (subst (λ s. NumbersBy key N2 (own s) (steps_of (owned ++ list ∷ []) n)) q new_owns)))
        (λ o. (let w = k.of_texts.within t j o in let s = k.size in
        subst (NumbersBy key N2 (own t)) (sym (steps_left owned list j (omega (arith, w, s)))) (kept_numbers key N N2 (own t) (steps_of owned j) p.kept (k.owns t j o))))
        (only t j e);
    named = λ a x h. ⊎_elim
        (λ q. number_of_one key N2 (own text) list x (subst (NumbersBy key N2 (own text)) (sym p.behind) p.numbers) (subst (In x) (ap (steps_of (owned ++ list ∷ [])) q ∙ steps_last owned list) h))
        (λ ne. (let l = steps_past (owned ++ list ∷ []) a x h in let low : a < length owned = omega (arith, l, ne, length-append owned (list ∷ [])) in
        let o = k.named a x (subst (In x) (steps_left owned list a low) h) in (o.0, p.kept o.0 x o.1)))
        (same_or_not a (length owned));
  }
