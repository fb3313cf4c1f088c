-- A set has one outcome.
use Rattle.std.proofs.Common.{◌≡◌, ℕ, zero, suc, ◌<◌, ◌≤◌, List, [], ◌∷◌, ◌++◌, length, take, map, Option, Some, None, IsSomeAnd, slice_get, refl, sym, ap, subst, ◌∙◌, arith, inl, inr}
use Rattle.std.proofs.lemmas.Bool.{cases_lt}
use Rattle.std.proofs.lemmas.List.{take_all}
use Rattle.std.proofs.lemmas.Option.{slice_get_within}
use Rattle.std.specs.FinMap as finite
use Rattle.ranked.specs.Entries.{Entry}
use Rattle.ranked.specs.First.{IsFirst, Or, Where, Clear}
use Rattle.ranked.proofs.FirstLaws.{unique}
use Rattle.wr_outside.specs.Files.{Files}
use Rattle.midl_lex.proofs.Entering.{nothing_entered}
use Rattle.midl_lex.proofs.Cutting.{one_list}
use Rattle.midl_parse.proofs.Entering.{nothing_entered as nothing_unparsed}
use Rattle.midl_parse.proofs.OneTree.{one_source}
use Rattle.midl_parse.specs.Entries.{Parsing}
use Rattle.midl_parse.specs.Files.{IsSource}
use Rattle.midl_tree.specs.Trees.{SourceTree}
use Rattle.midl_words.specs.Words.{terminal_of}
use Rattle.source_set.specs.Events.{Event, too_many, missing, too_long, refused, IsNext, Follows, Begins, Holds, StopsAt, FirstEvent, NoEvent}
use Rattle.source_set.specs.Found.{Read, found, room}
use Rattle.source_set.specs.Phases.{HasTree, Unparsed, Faulty}

-- ---- one file

same_tree : (bytes : List ℕ) (s t : SourceTree) → HasTree bytes s → HasTree bytes t → s ≡ t
same_tree bytes s t h k =
    one_source (map terminal_of k.pieces) s t (subst (λ p. IsSource (map terminal_of p) s) (one_list bytes h.pieces k.pieces h.lexes k.lexes) h.spells) k.spells

-- bytes with a tree have no fault
faultless : (number : ℕ) (bytes : List ℕ) (tree : SourceTree) (e : Entry) → HasTree bytes tree → IsFirst (Faulty number bytes) (Some e) → ⊥
unfolding IsFirst Or Where Clear Unparsed
faultless number bytes tree e h f = elim f.stands [
  | inl lexical ↦ nothing_entered number bytes h.pieces h.lexes e lexical
  | inr w ↦ nothing_unparsed number h.pieces tree h.spells e (subst (λ p. Parsing number p e) (one_list bytes w.1.0 h.pieces w.1.1 h.lexes) w.1.2)
]

none_some : {X : Type 0} (x : X) → ◌≡◌ {A = Option X} None (Some x) → ⊥
none_some {X = X} x e = let bad : ◌≡◌ {A = Option X} None (Some x) = e in cc

of_some : {X : Type 0} (P : X → Type 0) (o : Option X) (x : X) → o ≡ Some x → IsSomeAnd o P → P x
of_some P o x e h = subst (λ p. IsSomeAnd p P) e h

-- a file that goes on has no event
not_stopped : (words : List (List ℕ)) (reads : List Read) (r : Read) (content : Option (List ℕ)) (event : Event) → Follows words reads r → content ≡ Some r.bytes
    → StopsAt reads content event → ⊥
not_stopped words reads r content too_many f is s = absurd (omega (arith, f.few))
not_stopped words reads r content missing f is s = none_some r.bytes (sym s.1 ∙ is)
not_stopped words reads r content too_long f is s =
    let long : room reads < length r.bytes = of_some (λ bytes. room reads < length bytes) content r.bytes is s.1 in
    absurd (omega (arith, f.short))
not_stopped words reads r content (refused e) f is s =
    let found = of_some (λ bytes. (length bytes ≤ room reads) × IsFirst (Faulty (length reads) bytes) (Some e)) content r.bytes is s.1 in
    faultless (length reads) r.bytes r.tree e f.tree found.1

-- what is held decides the event
one_event : (reads : List Read) (content : Option (List ℕ)) (e f : Event) → StopsAt reads content e → StopsAt reads content f → e ≡ f
one_event reads content too_many too_many s t = refl
one_event reads content too_many missing s t = absurd (omega (arith, t.0))
one_event reads content too_many too_long s t = absurd (omega (arith, t.0))
one_event reads content too_many (refused f) s t = absurd (omega (arith, t.0))
one_event reads content missing too_many s t = absurd (omega (arith, s.0))
one_event reads content missing missing s t = refl
one_event reads content missing too_long s t = absurd (subst (λ o. IsSomeAnd o (λ bytes. room reads < length bytes)) s.1 t.1)
one_event reads content missing (refused f) s t =
    absurd (subst (λ o. IsSomeAnd o (λ bytes. (length bytes ≤ room reads) × IsFirst (Faulty (length reads) bytes) (Some f))) s.1 t.1)
one_event reads content too_long too_many s t = absurd (omega (arith, s.0))
one_event reads content too_long missing s t = absurd (subst (λ o. IsSomeAnd o (λ bytes. room reads < length bytes)) t.1 s.1)
one_event reads content too_long too_long s t = refl
one_event reads None too_long (refused f) s t = absurd s.1
one_event reads (Some bytes) too_long (refused f) s t = absurd (omega (arith, s.1, t.1.0))
one_event reads content (refused e) too_many s t = absurd (omega (arith, s.0))
one_event reads content (refused e) missing s t =
    absurd (subst (λ o. IsSomeAnd o (λ bytes. (length bytes ≤ room reads) × IsFirst (Faulty (length reads) bytes) (Some e))) t.1 s.1)
one_event reads None (refused e) too_long s t = absurd s.1
one_event reads (Some bytes) (refused e) too_long s t = absurd (omega (arith, s.1.0, t.1))
one_event reads None (refused e) (refused f) s t = absurd s.1
one_event reads (Some bytes) (refused e) (refused f) s t =
    let one : ◌≡◌ {A = Option Entry} (Some e) (Some f) = unique (Faulty (length reads) bytes) (Some e) (Some f) s.1.1 t.1.1 in
    let same : e ≡ f = cc in
    ap refused same

-- ---- the files so far

take_at : {X : Type 0} (xs : List X) (n : ℕ) (x : X) → slice_get xs n ≡ Some x → take (suc n) xs ≡ take n xs ++ x ∷ []
take_at [] n x e = absurd (none_some x e)
take_at {X = X} (y ∷ xs) zero x e = let same : y ≡ x = cc in ap (λ z. z ∷ []) same
take_at (y ∷ xs) (suc n) x e = ap (λ t. y ∷ t) (take_at xs n x e)

element : {X : Type 0} (xs : List X) (n : ℕ) → n < length xs → (x : X) × (slice_get xs n ≡ Some x)
element [] n l = absurd (omega arith)
element (x ∷ xs) zero l = (x, refl)
element (x ∷ xs) (suc n) l = element xs n (omega arith)

read_of_parts : List ℕ → List ℕ → SourceTree → Read
read_of_parts name bytes tree = record { name = name; bytes = bytes; tree = tree }

same_read : (x y : Read) → x.name ≡ y.name → x.bytes ≡ y.bytes → x.tree ≡ y.tree → x ≡ y
unfolding read_of_parts
same_read x y n b t =
    ap (λ z. read_of_parts z x.bytes x.tree) n ∙ ap (λ z. read_of_parts y.name z x.tree) b ∙ ap (λ z. read_of_parts y.name y.bytes z) t

some_same : {X : Type 0} (x y : X) → ◌≡◌ {A = Option X} (Some x) (Some y) → x ≡ y
some_same x y e = cc

module _ (words : List (List ℕ)) (files : Files) where
  record From (reads : List Read) : Type 0 where
    begins : Begins words reads
    holds : Holds files reads

  -- the next name is one
  next_at : (reads : List Read) (n : ℕ) (x : Read) → From reads → slice_get reads n ≡ Some x → IsNext words (take n reads) x.name
  next_at reads n x h e = (h.begins.each n x e).next

  same_next : (a b : List Read) (n m : List ℕ) → a ≡ b → IsNext words a n → IsNext words b m → n ≡ m
  same_next a b n m same p q = some_same n m (sym p ∙ ap (λ t. slice_get (found words t) (length t)) same ∙ q)

  -- as far as both go, they are the same files
  agree : (a b : List Read) (n : ℕ) → From a → From b → n ≤ length a → n ≤ length b → take n a ≡ take n b
  agree a b zero h k p q = refl
  agree a b (suc n) h k p q =
      let before = agree a b n h k (omega arith) (omega arith) in
      let x = element a n (omega arith) in
      let y = element b n (omega arith) in
      let name = same_next (take n a) (take n b) x.0.name y.0.name before (next_at a n x.0 h x.1) (next_at b n y.0 k y.1) in
      let bytes : x.0.bytes ≡ y.0.bytes =
      some_same x.0.bytes y.0.bytes (sym (h.holds.each n x.0 x.1) ∙ ap (finite.get files) name ∙ k.holds.each n y.0 y.1) in
      let tree : x.0.tree ≡ y.0.tree =
      same_tree y.0.bytes x.0.tree y.0.tree (subst (λ t. HasTree t x.0.tree) bytes (h.begins.each n x.0 x.1).tree) (k.begins.each n y.0 y.1).tree in
      take_at a n x.0 x.1 ∙ ap (λ t. t ++ x.0 ∷ []) before ∙ ap (λ t. take n b ++ t ∷ []) (same_read x.0 y.0 name bytes tree) ∙ sym (take_at b n y.0 y.1)

  -- the shorter one is the front of the longer one
  front_of : (a b : List Read) → From a → From b → length a ≤ length b → a ≡ take (length a) b
  front_of a b h k le = sym (take_all (length a) a (omega arith)) ∙ agree a b (length a) h k (omega arith) le

  -- the file of the longer one at the end of the shorter one
  record Later (a b : List Read) : Type 0 where
    file : Read
    follows : Follows words a file
    held : finite.get files file.name ≡ Some file.bytes

  later : (a b : List Read) → From a → From b → length a < length b → Later a b
  later a b h k l =
      let y = element b (length a) l in
      record {
        file = y.0;
        follows = subst (λ t. Follows words t y.0) (sym (front_of a b h k (omega arith))) (k.begins.each (length a) y.0 y.1);
        held = k.holds.each (length a) y.0 y.1;
      }

  equal_lengths : (a b : List Read) → From a → From b → length a ≡ length b → a ≡ b
  equal_lengths a b h k e = front_of a b h k (omega arith) ∙ take_all (length a) b (omega arith)

  done : (reads : List Read) → NoEvent words files reads → From reads
  done reads h = record { begins = h.begins; holds = h.holds }

  stopped : (name : List ℕ) (event : Event) (h : FirstEvent words files name event) → From h.reads
  stopped name event h = record { begins = h.begins; holds = h.holds }

  -- nothing comes after all files
  nothing_next : (reads : List Read) (name : List ℕ) → NoEvent words files reads → IsNext words reads name → ⊥
  nothing_next reads name h next =
      let within : length reads < length (found words reads) = slice_get_within (found words reads) (length reads) name next in
      absurd (omega (arith, h.all))

  pub one_set : (a b : List Read) → NoEvent words files a → NoEvent words files b → a ≡ b
  one_set a b h k = elim (cases_lt (length a) (length b)) [
    | inl low ↦ let y = later a b (done a h) (done b k) low in absurd (nothing_next a y.file.name h y.follows.next)
    | inr high ↦ elim (cases_lt (length b) (length a)) [
      | inl low ↦ let x = later b a (done b k) (done a h) low in absurd (nothing_next b x.file.name k x.follows.next)
      | inr same ↦ equal_lengths a b (done a h) (done b k) (omega (arith, high, same))
    ]
  ]

  -- an event can't stand before a file that goes on
  no_stop : (a b : List Read) (name : List ℕ) (event : Event) → Later a b → IsNext words a name → StopsAt a (finite.get files name) event → ⊥
  no_stop a b name event y next stops =
      not_stopped words a y.file (finite.get files name) event y.follows (ap (finite.get files) (same_next a a name y.file.name refl next y.follows.next) ∙ y.held) stops

  pub no_first : (reads : List Read) (name : List ℕ) (event : Event) → NoEvent words files reads → FirstEvent words files name event → ⊥
  no_first reads name event h k = elim (cases_lt (length k.reads) (length reads)) [
    | inl low ↦ no_stop k.reads reads name event (later k.reads reads (stopped name event k) (done reads h) low) k.next k.stops
    | inr high ↦ elim (cases_lt (length reads) (length k.reads)) [
      | inl low ↦ let y = later reads k.reads (done reads h) (stopped name event k) low in nothing_next reads y.file.name h y.follows.next
      | inr same ↦
          nothing_next reads name h
          (subst (λ t. IsNext words t name) (equal_lengths k.reads reads (stopped name event k) (done reads h) (omega (arith, high, same))) k.next)
    ]
  ]

  pub one_first : (a b : List ℕ) (e f : Event) → FirstEvent words files a e → FirstEvent words files b f → (a ≡ b) × (e ≡ f)
  one_first a b e f h k = elim (cases_lt (length h.reads) (length k.reads)) [
    | inl low ↦ absurd (no_stop h.reads k.reads a e (later h.reads k.reads (stopped a e h) (stopped b f k) low) h.next h.stops)
    | inr high ↦ elim (cases_lt (length k.reads) (length h.reads)) [
      | inl low ↦ absurd (no_stop k.reads h.reads b f (later k.reads h.reads (stopped b f k) (stopped a e h) low) k.next k.stops)
      | inr same ↦
          let reads = equal_lengths h.reads k.reads (stopped a e h) (stopped b f k) (omega (arith, high, same)) in
          let name = same_next h.reads k.reads a b reads h.next k.next in (
            name,
            one_event k.reads (finite.get files b) e f
                (subst (λ t. StopsAt t (finite.get files b) e) reads (subst (λ n. StopsAt h.reads (finite.get files n) e) name h.stops)) k.stops,
          )
    ]
  ]
