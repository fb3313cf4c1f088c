-- What flags tell is what a rule says.
use Rattle.std.proofs.Common.{◌≡◌, ◌↔◌, ℕ, Bool, true, false, IsTrue, List, Option, Some, slice_get, refl, sym, ap, subst, true≢false}
use Rattle.std.proofs.lemmas.Option.{none-some, same_Some}
use Rattle.ranked.specs.Entries.{Entry}
use Rattle.ranked.specs.First.{IsFirst, Among, Below, At, Only}
use Rattle.ranked.proofs.FirstLaws.{same}
use Rattle.wr_base.specs.declared.code.Code.{Code}
use Rattle.wr_rules.specs.Sites.{Site, Spot, spot_of, broken_at, If}
use Rattle.flagged_sites.specs.Flags.{flag_of, Flagged}

pub if_told : (test : Bool) (code : Code) (spot : Spot) (e : Entry) → If test code spot e → (test ≡ true) × (e ≡ broken_at code spot)
unfolding If
if_told true code spot e h = (refl, sym (same_Some (broken_at code spot) e h))
if_told false code spot e h = absurd (none-some e h)

pub tell_if : (test : Bool) (code : Code) (spot : Spot) (e : Entry) → test ≡ true → e ≡ broken_at code spot → If test code spot e
unfolding If
tell_if true code spot e t h = ap (λ (x : Entry). Some x) (sym h)
tell_if false code spot e t h = absurd (true≢false (sym t))

module _ (sites : List Site) (flags : List Bool) (code : Code) where
  -- the flags decide a fact of each declaration
  pub flags_decide : (P : Site → Type 0) → ((k : ℕ) (s : Site) → slice_get sites k ≡ Some s → IsTrue (flag_of flags k) ↔ P s) → (r : Option Entry)
      → IsFirst (Flagged sites flags code) r → IsFirst (Among sites (λ s. Only (P s) (broken_at code (spot_of s)))) r
  unfolding Below At Only
  flags_decide P tells r h = same (Flagged sites flags code) (Among sites (λ s. Only (P s) (broken_at code (spot_of s)))) r to from h
    where
      to : (e : Entry) → Flagged sites flags code e → Among sites (λ s. Only (P s) (broken_at code (spot_of s))) e
      to e (k, l, (s, at, x)) = let t = if_told (flag_of flags k) code (spot_of s) e x in (k, l, (s, at, ((tells k s at).0 t.0, t.1)))

      from : (e : Entry) → Among sites (λ s. Only (P s) (broken_at code (spot_of s))) e → Flagged sites flags code e
      from e (k, l, (s, at, (p, x))) = (k, l, (s, at, tell_if (flag_of flags k) code (spot_of s) e ((tells k s at).1 p) x))

  -- the flags are what a test says of each declaration
  pub flags_test : (p : Site → Bool) → ((k : ℕ) (s : Site) → slice_get sites k ≡ Some s → flag_of flags k ≡ p s) → (r : Option Entry)
      → IsFirst (Flagged sites flags code) r → IsFirst (Among sites (λ s. If (p s) code (spot_of s))) r
  unfolding Below At
  flags_test p tells r h = same (Flagged sites flags code) (Among sites (λ s. If (p s) code (spot_of s))) r to from h
    where
      to : (e : Entry) → Flagged sites flags code e → Among sites (λ s. If (p s) code (spot_of s)) e
      to e (k, l, (s, at, x)) = (k, l, (s, at, subst (λ (b : Bool). If b code (spot_of s) e) (tells k s at) x))

      from : (e : Entry) → Among sites (λ s. If (p s) code (spot_of s)) e → Flagged sites flags code e
      from e (k, l, (s, at, x)) = (k, l, (s, at, subst (λ (b : Bool). If b code (spot_of s) e) (sym (tells k s at)) x))
