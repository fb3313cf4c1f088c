-- An interface is in its closed requires where it lists itself, or else its list isn't closed, which counts first.
use Rattle.std.proofs.Common.{◌≡◌, ◌<◌, ℕ, Bool, true, false, length, slice_get, List, ◌∷◌, Option, Some, ◌⊎◌, inl, inr, refl, sym, ap, subst, ◌∙◌}
use Rattle.std.specs.declared.cmp.Ordering.TheVariants.{Equal}
use Rattle.std.specs.Ordering.{nat_cmp, is_gt, ordering_then}
use Rattle.std.specs.Cmp.{tied_itself}
use Rattle.std.specs.Cmp.Lexicographic.{slice_cmp}
use Rattle.std.proofs.lemmas.Cmp.{nat_cmp_total}
use Rattle.std.proofs.lemmas.Option.{none-some}
use Rattle.ranked.specs.Entries.{Entry, UpTo}
use Rattle.ranked.specs.First.{IsFirst, Or, Among, At, Below, Only}
use Rattle.wr_base.specs.declared.code.Code.TheVariants.{NotClosed, RequiresCycle}
use Rattle.wr_base.specs.declared.declaration.Declaration.{Declaration}
use Rattle.wr_base.specs.declared.declaration.Declaration.TheVariants.{Enum, Struct, Delegate, Interface, Class}
use Rattle.wr_rules.specs.Closures.{listed, lists}
use Rattle.wr_rules.specs.Sites.{Site, Spot, spot_of, broken_at, If}
use Rattle.wr_rules.specs.ListRules.{lacks, listed_in, IsNotClosed, RequiresItself, IsRequiresCycle}
use Rattle.wr_rules.proofs.Shadows.{Covered, shadowed}
use Rattle.wr_rules.proofs.ClosedLaws.{closed_is_listed}

-- an interface lists itself
abbrev pub lists_itself : Declaration → Bool
lists_itself (Interface name version id owner requires_ members) = lists requires_ name
lists_itself (Enum name version flags cases) = false
lists_itself (Struct name version fields) = false
lists_itself (Delegate name version id invoke) = false
lists_itself (Class name version fixed default has direct factories statics) = false

abbrev pub IsListedCycle : Site → Entry → Type 0
IsListedCycle s = If (lists_itself s.decl) RequiresCycle (spot_of s)

same_number : (n : ℕ) → nat_cmp n n ≡ Equal
same_number n = tied_itself nat_cmp_total n

before : (spot : Spot) → UpTo (broken_at NotClosed spot) (broken_at RequiresCycle spot)
before spot =
    ap (λ o. is_gt (ordering_then o (ordering_then (nat_cmp spot.place.offset spot.place.offset) (slice_cmp nat_cmp (19 ∷ spot.word) (38 ∷ spot.word))))) (same_number spot.place.file)
    ∙ ap (λ o. is_gt (ordering_then o (slice_cmp nat_cmp (19 ∷ spot.word) (38 ∷ spot.word)))) (same_number spot.place.offset)

module _ (types : List Declaration) where
  itself_listed : (d : Declaration) → lists_itself d ≡ true → RequiresItself types d
  itself_listed (Interface name version id owner requires_ members) e = listed e
  itself_listed (Enum name version flags cases) e = cc
  itself_listed (Struct name version fields) e = cc
  itself_listed (Delegate name version id invoke) e = cc
  itself_listed (Class name version fixed default has direct factories statics) e = cc

  itself_closed : (d : Declaration) → lacks types (listed_in d) ≡ false → RequiresItself types d → lists_itself d ≡ true
  itself_closed (Interface name version id owner requires_ members) e c = closed_is_listed types requires_ e name c
  itself_closed (Enum name version flags cases) e c = absurd c
  itself_closed (Struct name version fields) e c = absurd c
  itself_closed (Delegate name version id invoke) e c = absurd c
  itself_closed (Class name version fixed default has direct factories statics) e c = absurd c

  told : (test : Bool) (spot : Spot) (e : Entry) → If test RequiresCycle spot e → (test ≡ true) × (broken_at RequiresCycle spot ≡ e)
  unfolding If
  told true spot e h = let x : broken_at RequiresCycle spot ≡ e = cc in (refl, x)
  told false spot e h = absurd (none-some e h)

  tell : (test : Bool) (spot : Spot) (e : Entry) → test ≡ true → e ≡ broken_at RequiresCycle spot → If test RequiresCycle spot e
  unfolding If
  tell true spot e t h = ap (λ x. Some x) (sym h)
  tell false spot e t h = cc

  lacking : (test : Bool) (spot : Spot) → test ≡ true → If test NotClosed spot (broken_at NotClosed spot)
  unfolding If
  lacking true spot t = refl
  lacking false spot t = cc

  module _ (sites : List Site) where
    to : (e : Entry) → Among sites IsListedCycle e → Among sites (IsRequiresCycle types) e ⊎ Covered (Among sites (IsNotClosed types)) e
    unfolding Below At Only
    to e h = let t = told (lists_itself h.2.0.decl) (spot_of h.2.0) e h.2.2 in inl (h.0, h.1, (h.2.0, h.2.1, (itself_listed h.2.0.decl t.0, sym t.1)))

    open_or_not : (s : Site) (b : Bool) → lacks types (listed_in s.decl) ≡ b → (k : ℕ) (e : Entry) → k < length sites → slice_get sites k ≡ Some s → RequiresItself types s.decl → e ≡ broken_at RequiresCycle (spot_of s)
        → Among sites IsListedCycle e ⊎ Covered (Among sites (IsNotClosed types)) e
    unfolding Below At Only
    open_or_not s true l k e inside at c is = inr (broken_at NotClosed (spot_of s), (k, inside, (s, at, lacking (lacks types (listed_in s.decl)) (spot_of s) l)), subst (UpTo (broken_at NotClosed (spot_of s))) (sym is) (before (spot_of s)))
    open_or_not s false l k e inside at c is = inl (k, inside, (s, at, tell (lists_itself s.decl) (spot_of s) e (itself_closed s.decl l c) is))

    from : (e : Entry) → Among sites (IsRequiresCycle types) e → Among sites IsListedCycle e ⊎ Covered (Among sites (IsNotClosed types)) e
    unfolding Below At Only
    from e h = open_or_not h.2.0 (lacks types (listed_in h.2.0.decl)) refl h.0 e h.1 h.2.1 h.2.2.0 h.2.2.1

    -- beside NotClosed the first entry of the cheap rule is the first entry of the rule
    pub cycles_by_list : (r : Option Entry) → IsFirst (Or (Among sites (IsNotClosed types)) (Among sites IsListedCycle)) r → IsFirst (Or (Among sites (IsNotClosed types)) (Among sites (IsRequiresCycle types))) r
    cycles_by_list r h = shadowed (Among sites (IsNotClosed types)) (Among sites IsListedCycle) (Among sites (IsRequiresCycle types)) to from r h
