-- Where the store tells what it holds, images have one outcome.
use Rattle.std.proofs.Common.{◌≡◌, ℕ, suc, ◌+◌, ◌<◌, ◌≤◌, List, [], ◌∷◌, ◌++◌, length, map, Option, None, Some, Result, Ok, Err, refl, sym, ap, ap₂, subst, ◌∙◌, arith}
use Rattle.winmd_strict.specs.Reading.{TypesOf}
use Rattle.winmd_rows.specs.Faults.{Fault, Faulty}
use Rattle.md_schema.specs.declared.faults.ImageFault.{ImageFault}
use Rattle.wr_base.specs.Trees.{DeclTree, decl_tree}
use Rattle.wr_base.proofs.TreeLaws.{decl_tree-injective}
use Rattle.wr_base.specs.declared.declaration.Declaration.{Declaration}
use Rattle.wr_outside.specs.Files.{Files}
use Rattle.image_set.specs.Images.{AreTaken, IsTaken, TakenBy, TakenFrom, FirstEvent, StopsAt, StopsBy, Event, too_many, missing, too_long, faulty, image_limit, most_images}

∷-head : {X : Type 0} {x y : X} {xs ys : List X} → x ∷ xs ≡ y ∷ ys → x ≡ y
∷-head e = cc

∷-tail : {X : Type 0} {x y : X} {xs ys : List X} → x ∷ xs ≡ y ∷ ys → xs ≡ ys
∷-tail e = cc

apart : (limit n : ℕ) → n ≤ limit → limit < n → ⊥
apart limit n low high = omega (arith, low, high)

-- an image that states types doesn't stop
taken_or_stops : (number : ℕ) (content : Option (List ℕ)) (types : List Declaration) (event : Event) → TakenBy number content types → StopsBy number content event → ⊥
taken_or_stops number content types too_many t s = apart number most_images s t.0
taken_or_stops number None types missing t s = t.1
taken_or_stops number (Some bytes) types missing t s = let bad : Some bytes ≡ None = s.1 in cc
taken_or_stops number None types too_long t s = t.1
taken_or_stops number (Some bytes) types too_long t s = apart image_limit (length bytes) t.1.0 s.1
taken_or_stops number None types (faulty fault) t s = t.1
taken_or_stops number (Some bytes) types (faulty fault) t s = let bad : Ok (map decl_tree types) ≡ Err _ = sym t.1.1 ∙ s.1.1 in cc

trees_apart : (one other : List Declaration) → map decl_tree one ≡ map decl_tree other → one ≡ other
trees_apart [] [] e = refl
trees_apart [] (d ∷ ds) e = cc
trees_apart (d ∷ ds) [] e = cc
trees_apart (d ∷ ds) (f ∷ fs) e =
    ap₂ (λ (x : Declaration) (xs : List Declaration). x ∷ xs) (decl_tree-injective d f (head_of e)) (trees_apart ds fs (rest_of e))
  where
    head_of : decl_tree d ∷ map decl_tree ds ≡ decl_tree f ∷ map decl_tree fs → decl_tree d ≡ decl_tree f
    head_of e = cc

    rest_of : decl_tree d ∷ map decl_tree ds ≡ decl_tree f ∷ map decl_tree fs → map decl_tree ds ≡ map decl_tree fs
    rest_of e = cc

ok_trees : (one other : List DeclTree) (r : Result (List DeclTree) Fault) → r ≡ Ok one → r ≡ Ok other → one ≡ other
ok_trees one other r e f = let same : Ok one ≡ Ok other = sym e ∙ f in cc

err_faults : (one other : ImageFault) (r : Result (List DeclTree) Fault) → r ≡ Err (Faulty one) → r ≡ Err (Faulty other) → one ≡ other
err_faults one other r e f = let same : Err (Faulty one) ≡ Err (Faulty other) = sym e ∙ f in cc

-- an image states one set
one_set : (n m : ℕ) (content : Option (List ℕ)) (one other : List Declaration) → TakenBy n content one → TakenBy m content other → one ≡ other
one_set n m None one other a b = absurd a.1
one_set n m (Some bytes) one other a b = trees_apart one other (ok_trees _ _ (TypesOf bytes) a.1.1 b.1.1)

-- an image stops by one event
same_event : (number : ℕ) (content : Option (List ℕ)) (one other : Event) → StopsBy number content one → StopsBy number content other → one ≡ other
same_event number content too_many too_many s t = refl
same_event number content too_many missing s t = absurd (apart number most_images s t.0)
same_event number content too_many too_long s t = absurd (apart number most_images s t.0)
same_event number content too_many (faulty fault) s t = absurd (apart number most_images s t.0)
same_event number content missing too_many s t = absurd (apart number most_images t s.0)
same_event number content missing missing s t = refl
same_event number None missing too_long s t = absurd t.1
same_event number (Some bytes) missing too_long s t = let bad : Some bytes ≡ None = s.1 in cc
same_event number None missing (faulty fault) s t = absurd t.1
same_event number (Some bytes) missing (faulty fault) s t = let bad : Some bytes ≡ None = s.1 in cc
same_event number content too_long too_many s t = absurd (apart number most_images t s.0)
same_event number None too_long missing s t = absurd s.1
same_event number (Some bytes) too_long missing s t = let bad : Some bytes ≡ None = t.1 in cc
same_event number content too_long too_long s t = refl
same_event number None too_long (faulty fault) s t = absurd s.1
same_event number (Some bytes) too_long (faulty fault) s t = absurd (apart image_limit (length bytes) t.1.0 s.1)
same_event number content (faulty fault) too_many s t = absurd (apart number most_images t s.0)
same_event number None (faulty fault) missing s t = absurd s.1
same_event number (Some bytes) (faulty fault) missing s t = let bad : Some bytes ≡ None = t.1 in cc
same_event number None (faulty fault) too_long s t = absurd s.1
same_event number (Some bytes) (faulty fault) too_long s t = absurd (apart image_limit (length bytes) s.1.0 t.1)
same_event number None (faulty fault) (faulty last) s t = absurd s.1
same_event number (Some bytes) (faulty fault) (faulty last) s t = ap faulty (err_faults fault last (TypesOf bytes) s.1.1 t.1.1)

module _ (files : Files) where
  pub same_sets : (n : ℕ) (names : List (List ℕ)) (one other : List (List Declaration)) → TakenFrom (Some files) n names one → TakenFrom (Some files) n names other → one ≡ other
  same_sets n [] [] [] a b = refl
  same_sets n [] [] (t ∷ ts) a b = absurd b
  same_sets n [] (t ∷ ts) other a b = absurd a
  same_sets n (name ∷ names) [] other a b = absurd a
  same_sets n (name ∷ names) (t ∷ ts) [] a b = absurd b
  same_sets n (name ∷ names) (t ∷ ts) (u ∷ us) a b =
      let content : a.0.content ≡ b.0.content = sym a.0.told ∙ b.0.told in
      ap₂ (λ (x : List Declaration) (xs : List (List Declaration)). x ∷ xs)
      (one_set n n b.0.content t u (subst (λ c. TakenBy n c t) content a.0.is) b.0.is) (same_sets (suc n) names ts us a.1 b.1)

  -- the image of a word behind others
  image_at : (n : ℕ) (before behind : List (List ℕ)) (name : List ℕ) (sets : List (List Declaration)) → TakenFrom (Some files) n (before ++ name ∷ behind) sets
      → (types : List Declaration) × IsTaken (Some files) (n + length before) name types
  image_at n [] behind name [] taken = absurd taken
  image_at n [] behind name (t ∷ ts) taken = let here : n ≡ n + 0 = omega arith in (t, subst (λ k. IsTaken (Some files) k name t) here taken.0)
  image_at n (b ∷ bs) behind name [] taken = absurd taken
  image_at n (b ∷ bs) behind name (t ∷ ts) taken =
      let there = image_at (suc n) bs behind name ts taken.1 in
      let here : suc n + length bs ≡ n + length (b ∷ bs) = omega arith in
      (there.0, subst (λ k. IsTaken (Some files) k name there.0) here there.1)

  -- where each image is taken, nothing stops
  pub none_stops : (words : List (List ℕ)) (sets : List (List Declaration)) (name : List ℕ) (event : Event) → AreTaken (Some files) words sets
      → FirstEvent (Some files) words name event → ⊥
  none_stops words sets name event taken first =
      let r = first.reached in
      let at = image_at 0 r.before r.behind name sets (subst (λ ws. AreTaken (Some files) ws sets) r.parts taken) in
      let here : 0 + length r.before ≡ length r.before = omega arith in
      let is : IsTaken (Some files) (length r.before) name at.0 = subst (λ k. IsTaken (Some files) k name at.0) here at.1 in
      let content : is.content ≡ first.stops.content = sym is.told ∙ first.stops.told in
      taken_or_stops (length r.before) first.stops.content at.0 event (subst (λ c. TakenBy (length r.before) c at.0) content is.is) first.stops.is

  -- at one word images stop by one event, and never where one is taken
  one_stop : (n : ℕ) (name : List ℕ) (one other : Event) → StopsAt (Some files) n name one → StopsAt (Some files) n name other → one ≡ other
  one_stop n name one other s t =
      let content : s.content ≡ t.content = sym s.told ∙ t.told in
      same_event n t.content one other (subst (λ c. StopsBy n c one) content s.is) t.is

  not_both : (n : ℕ) (name : List ℕ) (types : List Declaration) (event : Event) → IsTaken (Some files) n name types → StopsAt (Some files) n name event → ⊥
  not_both n name types event t s =
      let content : t.content ≡ s.content = sym t.told ∙ s.told in
      taken_or_stops n s.content types event (subst (λ c. TakenBy n c types) content t.is) s.is

  events_from : (n : ℕ) (before behind first last : List (List ℕ)) (name place : List ℕ) (sets more : List (List Declaration)) (event other : Event)
      → before ++ name ∷ behind ≡ first ++ place ∷ last → TakenFrom (Some files) n before sets → TakenFrom (Some files) n first more
      → StopsAt (Some files) (n + length before) name event → StopsAt (Some files) (n + length first) place other → (name ≡ place) × (event ≡ other)
  events_from n [] behind [] last name place sets more event other e a b s t =
      let names : name ≡ place = ∷-head e in
      (names, one_stop (n + 0) place event other (subst (λ m. StopsAt (Some files) (n + 0) m event) names s) t)
  events_from n [] behind (c ∷ cs) last name place sets [] event other e a b s t = absurd b
  events_from n [] behind (c ∷ cs) last name place sets (u ∷ us) event other e a b s t =
      let names : name ≡ c = ∷-head e in
      let here : n + 0 ≡ n = omega arith in
      absurd (not_both n c u event b.0 (subst (λ m. StopsAt (Some files) n m event) names (subst (λ k. StopsAt (Some files) k name event) here s)))
  events_from n (d ∷ ds) behind [] last name place [] more event other e a b s t = absurd a
  events_from n (d ∷ ds) behind [] last name place (u ∷ us) more event other e a b s t =
      let names : place ≡ d = sym (∷-head e) in
      let here : n + 0 ≡ n = omega arith in
      absurd (not_both n d u other a.0 (subst (λ m. StopsAt (Some files) n m other) names (subst (λ k. StopsAt (Some files) k place other) here t)))
  events_from n (d ∷ ds) behind (c ∷ cs) last name place [] more event other e a b s t = absurd a
  events_from n (d ∷ ds) behind (c ∷ cs) last name place (u ∷ us) [] event other e a b s t = absurd b
  events_from n (d ∷ ds) behind (c ∷ cs) last name place (u ∷ us) (v ∷ vs) event other e a b s t =
      let one : n + length (d ∷ ds) ≡ suc n + length ds = omega arith in
      let two : n + length (c ∷ cs) ≡ suc n + length cs = omega arith in
      events_from (suc n) ds behind cs last name place us vs event other (∷-tail e) a.1 b.1
      (subst (λ k. StopsAt (Some files) k name event) one s) (subst (λ k. StopsAt (Some files) k place other) two t)

  -- images stop at one word, by one event
  pub one_event : (words : List (List ℕ)) (name place : List ℕ) (event other : Event) → FirstEvent (Some files) words name event
      → FirstEvent (Some files) words place other → (name ≡ place) × (event ≡ other)
  one_event words name place event other a b =
      let r = a.reached in
      let q = b.reached in
      let one : length r.before ≡ 0 + length r.before = omega arith in
      let two : length q.before ≡ 0 + length q.before = omega arith in
      events_from 0 r.before r.behind q.before q.behind name place r.sets q.sets event other (sym r.parts ∙ q.parts) r.taken q.taken
      (subst (λ k. StopsAt (Some files) k name event) one a.stops) (subst (λ k. StopsAt (Some files) k place other) two b.stops)
