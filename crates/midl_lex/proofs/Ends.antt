-- A loop that looks for the end of a comment.
use Rattle.std.proofs.Common.{◌≡◌, ℕ, suc, ◌+◌, ◌-◌, ◌<◌, ◌≤◌, true, false, List, [], ◌∷◌, length, take, drop, Option, Some, None, refl, sym, ap, ◌∙◌, arith}
use Rattle.std.proofs.lemmas.List.{take_rest}
use Rattle.midl_lex.specs.Comments.{find_end, ends_comment, one_more}

-- so many bytes before
abbrev pub after : ℕ → Option ℕ → Option ℕ
after n None = None
after n (Some m) = Some (n + m)

after_one : (n : ℕ) (o : Option ℕ) → after (n + 1) o ≡ after n (one_more o)
after_one n None = refl
after_one n (Some m) = ap (λ k. Some k) (let e : n + 1 + m ≡ n + suc m = omega arith in e)

pub after_none : (o : Option ℕ) → after 0 o ≡ o
after_none None = refl
after_none (Some m) = ap (λ k. Some k) (let e : 0 + m ≡ m = omega arith in e)

pub end_goes_on : (n : ℕ) (bs : List ℕ) (o : Option ℕ) → 1 ≤ length bs → ends_comment bs ≡ false → after n (find_end bs) ≡ o → after (n + 1) (find_end (take (length bs - 1) (drop 1 bs))) ≡ o
unfolding find_end
end_goes_on n [] o long other e = absurd (omega arith)
end_goes_on n (b ∷ bs) o long other e =
    let here : find_end (b ∷ bs) ≡ one_more (find_end bs) = rw other refl in
    ap (λ (u : List ℕ). after (n + 1) (find_end u)) (take_rest (b ∷ bs) 1) ∙ after_one n (find_end bs) ∙ ap (after n) (sym here) ∙ e

pub end_found : (n : ℕ) (bs : List ℕ) (o : Option ℕ) → ends_comment bs ≡ true → after n (find_end bs) ≡ o → Some (n + 2) ≡ o
unfolding find_end
end_found n [] o found e = absurd cc
end_found n (b ∷ bs) o found e = let here : find_end (b ∷ bs) ≡ Some 2 = rw found refl in ap (after n) (sym here) ∙ e

pub end_missing : (n : ℕ) (bs : List ℕ) (o : Option ℕ) → length bs < 1 → after n (find_end bs) ≡ o → None ≡ o
unfolding find_end
end_missing n [] o short e = e
end_missing n (b ∷ bs) o short e = absurd (omega arith)

pub end_length : (n : ℕ) (bs : List ℕ) (k : ℕ) → 1 ≤ length bs → n + length bs ≡ k → n + 1 + length (take (length bs - 1) (drop 1 bs)) ≡ k
end_length n [] k long e = absurd (omega arith)
end_length n (b ∷ bs) k long e = ap (λ (u : List ℕ). n + 1 + length u) (take_rest (b ∷ bs) 1) ∙ (let f : n + 1 + length bs ≡ k = omega arith in f)
