-- Two interfaces of a closure clash where two listed ones do, or else the list isn't closed, which counts first.
use Rattle.std.proofs.Common.{◌≡◌, ◌≢◌, ◌<◌, ℕ, Bool, true, false, not, ◌&&◌, ◌||◌, length, slice_get, map, List, [], ◌∷◌, ◌++◌, Option, Some, ◌⊎◌, inl, inr, ⊎_elim, refl, sym, ap, subst, ◌∙◌, true≢false}
use Rattle.std.specs.List.{list_any}
use Rattle.std.specs.Str.{bytes_eq}
use Rattle.std.specs.Cmp.Lexicographic.{bytes_decides}
use Rattle.std.specs.Ordering.{nat_cmp, is_gt, ordering_then}
use Rattle.std.specs.declared.cmp.Ordering.TheVariants.{Equal}
use Rattle.std.specs.Cmp.{tied_itself}
use Rattle.std.specs.Cmp.Lexicographic.{slice_cmp}
use Rattle.std.proofs.lemmas.Cmp.{nat_cmp_total}
use Rattle.std.proofs.lemmas.Option.{none-some}
use Rattle.ranked.specs.Entries.{Entry, UpTo}
use Rattle.ranked.specs.First.{IsFirst, Or, Among, At, Below, Only}
use Rattle.wr_base.specs.Uses.{text_of}
use Rattle.wr_base.specs.declared.code.Code.TheVariants.{NotClosed, MemberClash}
use Rattle.wr_base.specs.declared.type_use.TypeUse.{TypeUse}
use Rattle.wr_base.specs.declared.declaration.Declaration.{Declaration}
use Rattle.wr_base.specs.declared.declaration.Declaration.TheVariants.{Enum, Struct, Delegate, Interface, Class}
use Rattle.wr_rules.specs.Closures.{listed, lists}
use Rattle.wr_rules.specs.Sites.{Site, Spot, spot_of, broken_at, If}
use Rattle.wr_rules.specs.MemberRules.{shares}
use Rattle.wr_rules.specs.ListRules.{lacks, listed_in, IsNotClosed, names_at, Clash, clash_of, InClosure, stands_twice, Clashes, IsMemberClash}
use Rattle.wr_rules.proofs.Shadows.{Covered, shadowed}
use Rattle.wr_rules.proofs.ClosedLaws.{closed_is_listed}

-- among what is listed
abbrev pub clash_listed : List Declaration → Declaration → Bool
clash_listed types (Interface name version id owner requires_ members) = clash_of types (name ∷ map text_of requires_)
clash_listed types (Class name version fixed default has direct factories statics) = clash_of types (map text_of has ++ statics) || stands_twice types has factories statics
clash_listed types (Enum name version flags cases) = false
clash_listed types (Struct name version fields) = false
clash_listed types (Delegate name version id invoke) = false

abbrev pub IsListedClash : List Declaration → Site → Entry → Type 0
IsListedClash types s = If (clash_listed types s.decl) MemberClash (spot_of s)

either_true : (a b : Bool) → (a || b) ≡ true → (a ≡ true) ⊎ (b ≡ true)
either_true true b e = inl refl
either_true false b e = inr e

or_true : (a b : Bool) → b ≡ true → (a || b) ≡ true
or_true true b e = refl
or_true false b e = e

both_true : (a b : Bool) → (a && b) ≡ true → (a ≡ true) × (b ≡ true)
both_true true b e = (refl, e)
both_true false b e = cc

and_true : (a b : Bool) → a ≡ true → b ≡ true → (a && b) ≡ true
and_true true b e f = f
and_true false b e f = cc

-- one of a list of texts
abbrev pub Holds : List (List ℕ) → List ℕ → Type 0
Holds [] text = ⊥
Holds (t ∷ ts) text = (t ≡ text) ⊎ Holds ts text

module _ (p : List ℕ → Bool) where
  pub one_passes : (ts : List (List ℕ)) → list_any p ts ≡ true → (t : List ℕ) × Holds ts t × (p t ≡ true)
  one_passes [] e = cc
  one_passes (t ∷ ts) e = elim (either_true (p t) (list_any p ts) e) [ inl h ↦ (t, inl refl, h) | inr h ↦ (let r = one_passes ts h in (r.0, inr r.1, r.2)) ]

  pub any_passes : (ts : List (List ℕ)) (t : List ℕ) → Holds ts t → p t ≡ true → list_any p ts ≡ true
  any_passes [] t h e = absurd h
  any_passes (s ∷ ts) t (inl q) e = ap (λ b. b || list_any p ts) (ap p q ∙ e)
  any_passes (s ∷ ts) t (inr h) e = or_true (p s) (list_any p ts) (any_passes ts t h e)

other_text : (s t : List ℕ) → s ≢ t → not (bytes_eq s t) ≡ true
other_text s t n = elim (bytes_eq s t) as (λ b. bytes_eq s t ≡ b → not b ≡ true) [ true ↦ λ e. absurd (n ((bytes_decides s t).0 e)) | false ↦ λ e. refl ] refl

text_apart : (s t : List ℕ) → not (bytes_eq s t) ≡ true → s ≢ t
text_apart s t e q = let f : false ≡ true = sym (ap not ((bytes_decides s t).1 q)) ∙ e in true≢false (sym f)

module _ (types : List Declaration) where
  pub clash_told : (texts : List (List ℕ)) → clash_of types texts ≡ true → Clash types (Holds texts)
  clash_told texts e =
      let s = one_passes (λ s. list_any (λ t. not (bytes_eq s t) && shares (names_at types s) (names_at types t)) texts) texts e in
      let t = one_passes (λ t. not (bytes_eq s.0 t) && shares (names_at types s.0) (names_at types t)) texts s.2 in
      let both = both_true (not (bytes_eq s.0 t.0)) (shares (names_at types s.0) (names_at types t.0)) t.2 in
      record { s = s.0; t = t.0; first = s.1; second = t.1; apart = text_apart s.0 t.0 both.0; shared = both.1 }

  pub tell_clash : (texts : List (List ℕ)) → Clash types (Holds texts) → clash_of types texts ≡ true
  tell_clash texts c =
      any_passes (λ s. list_any (λ t. not (bytes_eq s t) && shares (names_at types s) (names_at types t)) texts) texts c.s c.first
      (any_passes (λ t. not (bytes_eq c.s t) && shares (names_at types c.s) (names_at types t)) texts c.t c.second
      (and_true (not (bytes_eq c.s c.t)) (shares (names_at types c.s) (names_at types c.t)) (other_text c.s c.t c.apart) c.shared))

  clash_over : (P Q : List ℕ → Type 0) → ((t : List ℕ) → P t → Q t) → Clash types P → Clash types Q
  clash_over P Q f c = record { s = c.s; t = c.t; first = f c.s c.first; second = f c.t c.second; apart = c.apart; shared = c.shared }

  pub held_listed : (list : List TypeUse) (t : List ℕ) → Holds (map text_of list) t → lists list t ≡ true
  held_listed [] t h = absurd h
  held_listed (u ∷ us) t (inl q) = ap (λ b. b || lists us t) ((bytes_decides (text_of u) t).1 q)
  held_listed (u ∷ us) t (inr h) = or_true (bytes_eq (text_of u) t) (lists us t) (held_listed us t h)

  pub listed_held : (list : List TypeUse) (t : List ℕ) → lists list t ≡ true → Holds (map text_of list) t
  listed_held [] t e = cc
  listed_held (u ∷ us) t e = elim (either_true (bytes_eq (text_of u) t) (lists us t) e) [ inl h ↦ inl ((bytes_decides (text_of u) t).0 h) | inr h ↦ inr (listed_held us t h) ]

  listed_clash : (d : Declaration) → clash_listed types d ≡ true → Clashes types d
  listed_clash (Interface name version id owner requires_ members) e =
      clash_over (Holds (name ∷ map text_of requires_)) (InClosure types name requires_)
      (λ t h. ⊎_elim (λ q. inl (sym q)) (λ r. inr (listed (held_listed requires_ t r))) h) (clash_told (name ∷ map text_of requires_) e)
  listed_clash (Class name version fixed default has direct factories statics) e = e
  listed_clash (Enum name version flags cases) e = cc
  listed_clash (Struct name version fields) e = cc
  listed_clash (Delegate name version id invoke) e = cc

  closed_clash : (d : Declaration) → lacks types (listed_in d) ≡ false → Clashes types d → clash_listed types d ≡ true
  closed_clash (Interface name version id owner requires_ members) l c =
      tell_clash (name ∷ map text_of requires_) (clash_over (InClosure types name requires_) (Holds (name ∷ map text_of requires_))
      (λ t h. ⊎_elim (λ q. inl (sym q)) (λ r. inr (listed_held requires_ t (closed_is_listed types requires_ l t r))) h) c)
  closed_clash (Class name version fixed default has direct factories statics) l c = c
  closed_clash (Enum name version flags cases) l c = absurd c
  closed_clash (Struct name version fields) l c = absurd c
  closed_clash (Delegate name version id invoke) l c = absurd c

  told : (test : Bool) (spot : Spot) (e : Entry) → If test MemberClash spot e → (test ≡ true) × (broken_at MemberClash spot ≡ e)
  unfolding If
  told true spot e h = let x : broken_at MemberClash spot ≡ e = cc in (refl, x)
  told false spot e h = absurd (none-some e h)

  tell : (test : Bool) (spot : Spot) (e : Entry) → test ≡ true → e ≡ broken_at MemberClash spot → If test MemberClash spot e
  unfolding If
  tell true spot e t h = ap (λ x. Some x) (sym h)
  tell false spot e t h = cc

  lacking : (test : Bool) (spot : Spot) → test ≡ true → If test NotClosed spot (broken_at NotClosed spot)
  unfolding If
  lacking true spot t = refl
  lacking false spot t = cc

  same_number : (n : ℕ) → nat_cmp n n ≡ Equal
  same_number n = tied_itself nat_cmp_total n

  before : (spot : Spot) → UpTo (broken_at NotClosed spot) (broken_at MemberClash spot)
  before spot =
      ap (λ o. is_gt (ordering_then o (ordering_then (nat_cmp spot.place.offset spot.place.offset) (slice_cmp nat_cmp (19 ∷ spot.word) (39 ∷ spot.word))))) (same_number spot.place.file)
      ∙ ap (λ o. is_gt (ordering_then o (slice_cmp nat_cmp (19 ∷ spot.word) (39 ∷ spot.word)))) (same_number spot.place.offset)

  module _ (sites : List Site) where
    to : (e : Entry) → Among sites (IsListedClash types) e → Among sites (IsMemberClash types) e ⊎ Covered (Among sites (IsNotClosed types)) e
    unfolding Below At Only
    to e h = let t = told (clash_listed types h.2.0.decl) (spot_of h.2.0) e h.2.2 in inl (h.0, h.1, (h.2.0, h.2.1, (listed_clash h.2.0.decl t.0, sym t.1)))

    open_or_not : (s : Site) (b : Bool) → lacks types (listed_in s.decl) ≡ b → (k : ℕ) (e : Entry) → k < length sites → slice_get sites k ≡ Some s → Clashes types s.decl → e ≡ broken_at MemberClash (spot_of s)
        → Among sites (IsListedClash types) e ⊎ Covered (Among sites (IsNotClosed types)) e
    unfolding Below At Only
    open_or_not s true l k e inside at c is = inr (broken_at NotClosed (spot_of s), (k, inside, (s, at, lacking (lacks types (listed_in s.decl)) (spot_of s) l)), subst (UpTo (broken_at NotClosed (spot_of s))) (sym is) (before (spot_of s)))
    open_or_not s false l k e inside at c is = inl (k, inside, (s, at, tell (clash_listed types s.decl) (spot_of s) e (closed_clash s.decl l c) is))

    from : (e : Entry) → Among sites (IsMemberClash types) e → Among sites (IsListedClash types) e ⊎ Covered (Among sites (IsNotClosed types)) e
    unfolding Below At Only
    from e h = open_or_not h.2.0 (lacks types (listed_in h.2.0.decl)) refl h.0 e h.1 h.2.1 h.2.2.0 h.2.2.1

    -- beside NotClosed the first entry of the cheap rule is the first entry of the rule
    pub clashes_by_list : (r : Option Entry) → IsFirst (Or (Among sites (IsNotClosed types)) (Among sites (IsListedClash types))) r → IsFirst (Or (Among sites (IsNotClosed types)) (Among sites (IsMemberClash types))) r
    clashes_by_list r h = shadowed (Among sites (IsNotClosed types)) (Among sites (IsListedClash types)) (Among sites (IsMemberClash types)) to from r h
