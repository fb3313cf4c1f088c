-- The text of a name and a number tells both.
use Rattle.std.proofs.Common.{◌≡◌, ◌+◌, ℕ, zero, suc, List, [], ◌∷◌, ◌++◌, refl, sym, ap, ◌∙◌, arith}
use Rattle.member_rules.specs.Overloads.{ones, key_of}

head_or : ℕ → List ℕ → ℕ
head_or d [] = d
head_or d (x ∷ xs) = x

tail_of : List ℕ → List ℕ
tail_of [] = []
tail_of (x ∷ xs) = xs

tails : (x y : ℕ) (xs ys : List ℕ) → (x ∷ xs) ≡ (y ∷ ys) → xs ≡ ys
unfolding tail_of
tails x y xs ys e = ap tail_of e

heads : (x y : ℕ) (xs ys : List ℕ) → (x ∷ xs) ≡ (y ∷ ys) → x ≡ y
unfolding head_or
heads x y xs ys e = ap (head_or 0) e

apart : ¬ ((let n : ℕ = 48 in n) ≡ 49)
apart e = absurd (omega (arith, e))

pub told : (m n : ℕ) (a b : List ℕ) → key_of m a ≡ key_of n b → (m ∷ a) ≡ (n ∷ b)
told zero zero a b e = ap (λ (xs : List ℕ). 0 ∷ xs) (tails 48 48 a b e)
told zero (suc n) a b e = absurd (apart (heads 48 49 a (ones n ++ 48 ∷ b) e))
told (suc m) zero a b e = absurd (apart (sym (heads 49 48 (ones m ++ 48 ∷ a) b e)))
told (suc m) (suc n) a b e =
    let r = told m n a b (tails 49 49 (ones m ++ 48 ∷ a) (ones n ++ 48 ∷ b) e) in
    ap (λ (k : ℕ). suc k ∷ a) (heads m n a b r) ∙ ap (λ (xs : List ℕ). suc n ∷ xs) (tails m n a b r)

one_behind : (n : ℕ) → ones (suc n) ≡ ones n ++ 49 ∷ []
one_behind zero = refl
one_behind (suc n) = ap (λ (xs : List ℕ). 49 ∷ xs) (one_behind n)

suc_of : (n : ℕ) → n + 1 ≡ suc n
suc_of n = omega arith

pub one_more : (n : ℕ) → ones (n + 1) ≡ ones n ++ 49 ∷ []
one_more n = ap ones (suc_of n) ∙ one_behind n

pub keyed : (m n : ℕ) (a b : List ℕ) → (m ∷ a) ≡ (n ∷ b) → key_of m a ≡ key_of n b
keyed m n a b e = ap (λ (k : ℕ). key_of k a) (heads m n a b e) ∙ ap (key_of n) (tails m n a b e)
