-- A loop that reads one item at each turn.
use Rattle.std.proofs.Common.{◌≡◌, ℕ, true, false, List, [], ◌∷◌, ◌++◌, Ok, Err, refl, sym, ap, ◌∙◌, append_assoc}
use Rattle.std.proofs.lemmas.List.{append-nil}
use Rattle.grammar.specs.Readers.{Read, starts, done_at, follow, many_at, after_front}
use Rattle.grammar.proofs.KindSets.{apart}
use Rattle.grammar.proofs.ReaderLaws.{Reads}
use Rattle.grammar.proofs.Repeats.{many_turn}

module _ {E T A : Type 0} (kind : T → ℕ) (P : List T → A → Type 0) (r : List T → Read E T A) (f n : List ℕ)
    (reads : Reads kind P r f false n) (clear : apart f n ≡ true) where
  regroup : (front : List A) (x : A) (o : Read E T (List A)) → follow (follow o (λ xs. done_at (x ∷ xs))) (λ xs. done_at (front ++ xs)) ≡ follow o (λ xs. done_at ((front ++ x ∷ []) ++ xs))
  regroup front x (Ok q) = ap (λ (xs : List A). Ok (xs, q.1)) (sym (append_assoc front (x ∷ []) q.0))
  regroup front x (Err e) = refl

  pub loop_goes_on : (front : List A) (ts rest : List T) (x : A) (whole : Read E T (List A)) → starts kind f ts ≡ true → r ts ≡ Ok (x, rest)
      → after_front front (many_at kind f r) ts ≡ whole → after_front (front ++ x ∷ []) (many_at kind f r) rest ≡ whole
  loop_goes_on front ts rest x whole begun was so_far =
      let turn : many_at kind f r ts ≡ follow (many_at kind f r rest) (λ xs. done_at (x ∷ xs)) = many_turn kind P r f n reads clear ts ∙ rw (begun, was) refl in
      sym (regroup front x (many_at kind f r rest)) ∙ ap (λ (o : Read E T (List A)). follow o (λ xs. done_at (front ++ xs))) (sym turn) ∙ so_far

  pub loop_fails : (front : List A) (ts : List T) (e : E × ℕ) (whole : Read E T (List A)) → starts kind f ts ≡ true → r ts ≡ Err e
      → after_front front (many_at kind f r) ts ≡ whole → whole ≡ Err e
  loop_fails front ts e whole begun was so_far =
      let turn : many_at kind f r ts ≡ Err e = many_turn kind P r f n reads clear ts ∙ rw (begun, was) refl in
      sym so_far ∙ ap (λ (o : Read E T (List A)). follow o (λ xs. done_at (front ++ xs))) turn

  pub loop_ends : (front : List A) (ts : List T) (whole : Read E T (List A)) → starts kind f ts ≡ false
      → after_front front (many_at kind f r) ts ≡ whole → whole ≡ Ok (front, ts)
  loop_ends front ts whole ended so_far =
      let turn : many_at kind f r ts ≡ Ok ([], ts) = many_turn kind P r f n reads clear ts ∙ rw ended refl in
      sym so_far ∙ ap (λ (o : Read E T (List A)). follow o (λ xs. done_at (front ++ xs))) turn ∙ ap (λ (xs : List A). Ok (xs, ts)) (append-nil front)
