-- Members compared one by one.
use Rattle.std.proofs.Common.{◌≡◌, ◌<◌, ◌≤◌, ◌↔◌, ℕ, ◌==◌, Bool, false, not, ◌&&◌, IsTrue, List, Option, Some, Result, Ok, Err, IfOk, length, slice_get, sym, ap, ◌∙◌, arith, true≢false}
use Rattle.std.proofs.lemmas.Bool.{ne_eqb, and_from}
use Rattle.std.proofs.lemmas.Option.{slice_get_within}
use Rattle.ranked.specs.Entries.{Entry}
use Rattle.ranked.specs.First.{IsFirst, At, Only}
use Rattle.ranked.proofs.FirstLaws.{leaf, at_element}
use Rattle.wr_base.specs.declared.code.Code.{Code}
use Rattle.wr_base.specs.declared.declaration.Member.{Member}
use Rattle.placed_sites.specs.Views.{give}
use Rattle.wr_rules.specs.Sites.{Spot, broken_at}
use Rattle.wr_rules.specs.Members.{Standing}
use Rattle.wr_rules.specs.MemberRules.{Pair}

module _ (test : Member → Member → Bool) (ms : List (Standing Member)) (i : ℕ) (a : Standing Member) where
  -- the member at j is another one, and related
  abbrev pub related : ℕ → Standing Member → Bool
  related j b = not (i == j) && test a.part b.part

  pub none_paired : (n : ℕ) → length ms ≤ n → ((j : ℕ) (b : Standing Member) → j < n → slice_get ms j ≡ Some b → related j b ≡ false) → IsTrue false ↔ Pair test ms i a
  none_paired n l none = (
    λ e. absurd (true≢false (sym e)),
    λ p. absurd (true≢false (sym (and_from (not (i == p.j)) (test a.part p.b.part) (ap not (ne_eqb i p.j p.apart)) p.so)
        ∙ none p.j p.b (let w = slice_get_within ms p.j p.b p.at in omega (arith, w, l)) p.at)),
  )

-- the member at i, where another one is related to it
abbrev pub PairedAt : (Member → Member → Bool) → Code → List (Standing Member) → ℕ → Entry → Type 0
PairedAt test code ms i = At ms (λ a. Only (Pair test ms i a) (broken_at code a.spot)) i

module _ (test : Member → Member → Bool) (code : Code) (ms : List (Standing Member)) (i : ℕ) (a : Standing Member) (here : slice_get ms i ≡ Some a) where
  at_place : {E : Type 0} (r : Result (Option Entry) E) → IfOk r (IsFirst (Only (Pair test ms i a) (broken_at code a.spot))) → IfOk r (IsFirst (PairedAt test code ms i))
  at_place (Err x) h = tt
  at_place (Ok o) h = at_element ms (λ m. Only (Pair test ms i m) (broken_at code m.spot)) i a o here h

  -- one member by a test
  pub one_paired : {E : Type 0} (r : Result (Option Entry) E) (b : Bool) (spot : Spot) → (IsTrue b ↔ Pair test ms i a) → spot ≡ a.spot → IfOk r (λ o. o ≡ give b (broken_at code spot))
      → IfOk r (IsFirst (PairedAt test code ms i))
  one_paired r b spot told e h = at_place r (leaf r (Pair test ms i a) (broken_at code a.spot) b told (rw e at h))
