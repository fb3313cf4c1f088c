-- Images one after the other.
use Rattle.std.proofs.Common.{◌≡◌, ℕ, suc, ◌+◌, ◌<◌, List, [], ◌∷◌, ◌++◌, length, Option, Ok, Err, refl, sym, ap, subst, ◌∙◌, append_assoc, append-nil, arith}
use Rattle.wr_base.specs.declared.declaration.Declaration.{Declaration}
use Rattle.wr_outside.specs.Files.{Files}
use Rattle.image_set.specs.declared.stop.ImageStop.{ImageStop}
use Rattle.image_set.specs.declared.stop.ImageStop.TheVariants.{TooMany, Missing, TooLong, ReadFault, Faulty, Memory}
use Rattle.image_set.specs.Images.{AreTaken, IsTaken, MayRead, TakenFrom, Awaits, FirstEvent, StopsAt, StopsBy, Event, too_many, missing, too_long, faulty, most_images}
use Rattle.image_set.specs.Stops.{StopIs}
use Rattle.image_set.specs.Turns.{Turn, TurnIs}

module _ (held : Option Files) where
  same_length : (n : ℕ) (names : List (List ℕ)) (sets : List (List Declaration)) → TakenFrom held n names sets → length names ≡ length sets
  same_length n [] [] taken = refl
  same_length n [] (types ∷ sets) taken = absurd taken
  same_length n (name ∷ names) [] taken = absurd taken
  same_length n (name ∷ names) (types ∷ sets) taken = ap suc (same_length (suc n) names sets taken.1)

  one_more : (n : ℕ) (names : List (List ℕ)) (sets : List (List Declaration)) (name : List ℕ) (types : List Declaration) → TakenFrom held n names sets
      → IsTaken held (n + length sets) name types → TakenFrom held n (names ++ name ∷ []) (sets ++ types ∷ [])
  one_more n [] [] name types taken next = let here : n + 0 ≡ n = omega arith in (subst (λ k. IsTaken held k name types) here next, tt)
  one_more n [] (ts ∷ sets) name types taken next = absurd taken
  one_more n (m ∷ names) [] name types taken next = absurd taken
  one_more n (m ∷ names) (ts ∷ sets) name types taken next =
      let here : n + length (ts ∷ sets) ≡ suc n + length sets = omega arith in
      (taken.0, one_more (suc n) names sets name types taken.1 (subst (λ k. IsTaken held k name types) here next))

  -- the images of some of the words were taken, and these words are left
  pub record Progress (words rest : List (List ℕ)) (sets : List (List Declaration)) : Type 0 where
    pub before : List (List ℕ)
    pub parts : words ≡ before ++ rest
    pub taken : AreTaken held before sets

  pub start : (words : List (List ℕ)) → Progress words words []
  start words = record { before = []; parts = refl; taken = tt }

  pub more : (words after : List (List ℕ)) (sets : List (List Declaration)) (name : List ℕ) (types : List Declaration) → Progress words (name ∷ after) sets
      → Turn held (length sets) name (Ok types) → Progress words after (sets ++ types ∷ [])
  more words after sets name types p turn = record {
    before = p.before ++ name ∷ [];
    parts = p.parts ∙ sym (append_assoc p.before (name ∷ []) after);
    taken = one_more 0 p.before sets name types p.taken
        (let here : length sets ≡ 0 + length sets = omega arith in
        subst (λ k. IsTaken held k name types) here (record { content = turn.content; told = turn.told; is = turn.is }));
  }

  pub ends : (words : List (List ℕ)) (sets : List (List Declaration)) → Progress words [] sets → AreTaken held words sets
  ends words sets p = subst (λ ws. AreTaken held ws sets) (sym (p.parts ∙ append-nil p.before)) p.taken

  module _ (words after : List (List ℕ)) (sets : List (List Declaration)) (name : List ℕ) (p : Progress words (name ∷ after) sets) where
    event : (e : Event) (content : Option (List ℕ)) → MayRead held name content → StopsBy (length sets) content e → FirstEvent held words name e
    event e content told is = record {
      reached = record { before = p.before; behind = after; parts = p.parts; sets = sets; taken = p.taken };
      stops = subst (λ k. StopsAt held k name e) (sym (same_length 0 p.before sets p.taken)) (record { content = content; told = told; is = is });
    }

    by : (stop : ImageStop) (content : Option (List ℕ)) → MayRead held name content → TurnIs (length sets) name content (Err stop) → StopIs held words stop
    by (TooMany n) content told is = subst (λ m. FirstEvent held words m too_many) (sym is.0) (event too_many content told is.1)
    by (Missing n) content told is = subst (λ m. FirstEvent held words m missing) (sym is.0) (event missing content told is.1)
    by (TooLong n) content told is = subst (λ m. FirstEvent held words m too_long) (sym is.0) (event too_long content told is.1)
    by (ReadFault n) content told is =
        subst (λ m. Awaits held words m) (sym is.0) (record {
          reached = record { before = p.before; behind = after; parts = p.parts; sets = sets; taken = p.taken };
          few = subst (λ k. k < most_images) (sym (same_length 0 p.before sets p.taken)) is.1;
        })
    by (Faulty n fault) content told is = subst (λ m. FirstEvent held words m (faulty fault)) (sym is.0) (event (faulty fault) content told is.1)
    by Memory content told is = tt

    pub stops : (stop : ImageStop) → Turn held (length sets) name (Err stop) → StopIs held words stop
    stops stop turn = by stop turn.content turn.told turn.is
