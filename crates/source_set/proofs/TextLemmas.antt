-- What the methods of texts give, in the words of the definitions.
use Rattle.std.proofs.Common.{◌≡◌, ◌≢◌, ℕ, true, cond, eqb, List, [], ◌∷◌, ◌++◌, reverse, refl, sym, ap, ◌∙◌, arith}
use Rattle.std.proofs.lemmas.Bool.{ne_eqb}
use Rattle.std.proofs.lemmas.List.{reverse-reverse, reverse-append}
use Rattle.source_set.specs.Imports.{without_first}

-- ---- the mark at the front

pub stripped : (mark : ℕ) (bs body : List ℕ) → bs ≡ mark ∷ body → body ≡ without_first mark bs
stripped mark bs body e = ap (λ t. cond t body (mark ∷ body)) (sym (same mark)) ∙ ap (without_first mark) (sym e)
  where
    same : (n : ℕ) → eqb n n ≡ true
    same n = grind arith

pub unstripped : (mark : ℕ) (bs : List ℕ) → ((rest : List ℕ) → bs ≢ mark ∷ rest) → bs ≡ without_first mark bs
unstripped mark [] h = refl
unstripped mark (b ∷ bs) h = ap (λ t. cond t bs (b ∷ bs)) (sym (ne_eqb b mark (λ e. h bs (ap (λ n. n ∷ bs) e))))

pub strip_end : (mark : ℕ) (bs body : List ℕ) → bs ≡ body ++ mark ∷ [] → body ≡ reverse (without_first mark (reverse bs))
strip_end mark bs body e =
    sym (reverse-reverse body) ∙ ap reverse (stripped mark (reverse bs) (reverse body) (ap reverse e ∙ reverse-append body (mark ∷ [])))

pub unstrip_end : (mark : ℕ) (bs : List ℕ) → ((front : List ℕ) → bs ≢ front ++ mark ∷ []) → bs ≡ reverse (without_first mark (reverse bs))
unstrip_end mark bs h =
    sym (reverse-reverse bs)
    ∙ ap reverse (unstripped mark (reverse bs) (λ rest e. h (reverse rest) (sym (reverse-reverse bs) ∙ ap reverse e ∙ reverse-append (mark ∷ []) rest)))
