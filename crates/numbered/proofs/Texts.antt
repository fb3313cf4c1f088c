-- Numbers of texts, and texts of numbers.
use Rattle.std.proofs.Common.{◌≡◌, ℕ, List, [], ◌∷◌, Option, Some, inl, inr, map, refl, sym, ap, ◌∙◌}
use Rattle.chains.specs.Graphs.{In}
use Rattle.numbered.specs.Numbers.{NumbersBy}
use Rattle.numbered.specs.Tables.{OneOf}
use Rattle.numbered.proofs.Puts.{head_same, tail_of}

-- the number of one of the texts is one of the numbers, and the other way round
pub number_of_text : (key : List ℕ → List ℕ) (f : List ℕ → Option ℕ) (texts : List (List ℕ)) (list : List ℕ) (t : List ℕ) → NumbersBy key f texts list → OneOf texts t → (x : ℕ) × In x list × (f (key t) ≡ Some x)
number_of_text key f [] list t e h = absurd h
number_of_text key f (s ∷ ss) [] t e h = cc
number_of_text key f (s ∷ ss) (y ∷ ys) t e (inl q) = (y, inl refl, ap (λ z. f (key z)) (sym q) ∙ head_same (f (key s)) (Some y) (map (λ m. f (key m)) ss) (map (λ z. Some z) ys) e)
number_of_text key f (s ∷ ss) (y ∷ ys) t e (inr h) = let r = number_of_text key f ss ys t (ap tail_of e) h in (r.0, inr r.1, r.2)

pub text_of_number : (key : List ℕ → List ℕ) (f : List ℕ → Option ℕ) (texts : List (List ℕ)) (list : List ℕ) (x : ℕ) → NumbersBy key f texts list → In x list → (t : List ℕ) × OneOf texts t × (f (key t) ≡ Some x)
text_of_number key f texts [] x e h = absurd h
text_of_number key f [] (y ∷ ys) x e h = cc
text_of_number key f (s ∷ ss) (y ∷ ys) x e (inl q) = (s, inl refl, head_same (f (key s)) (Some y) (map (λ m. f (key m)) ss) (map (λ z. Some z) ys) e ∙ ap (λ z. Some z) q)
text_of_number key f (s ∷ ss) (y ∷ ys) x e (inr h) = let r = text_of_number key f ss ys x (ap tail_of e) h in (r.0, inr r.1, r.2)
