-- The rules by flags.
use Rattle.std.proofs.Common.{◌≡◌, ℕ, zero, suc, Bool, List, [], ◌∷◌, Option, Some, inl, inr, slice_get, refl, ap, ◌∙◌}
use Rattle.std.proofs.lemmas.Option.{same_Some, none-some}
use Rattle.ranked.specs.Entries.{Entry}
use Rattle.ranked.specs.First.{IsFirst, Or, Among}
use Rattle.ranked.proofs.FirstLaws.{same}
use Rattle.wr_base.specs.declared.code.Code.TheVariants.{NotClosed, RequiresCycle, MemberClash}
use Rattle.wr_base.specs.declared.declaration.Declaration.{Declaration}
use Rattle.wr_base.specs.declared.declaration.Declaration.TheVariants.{Enum, Struct, Delegate, Interface, Class}
use Rattle.wr_base.specs.declared.places.DeclPlaces.{DeclPlaces}
use Rattle.wr_rules.specs.Sites.{Site, sites_of}
use Rattle.wr_rules.specs.ListRules.{lacks, listed_in, IsNotClosed}
use Rattle.wr_rules.proofs.CycleLaws.{IsListedCycle, lists_itself as lists_own}
use Rattle.wr_rules.proofs.ClashLaws.{IsListedClash, clash_listed as clash_own}
use Rattle.flagged_sites.specs.Flags.{Flagged}
use Rattle.flagged_sites.proofs.FlagLaws.{flags_test}
use Rattle.list_rules.specs.Open.{FlagsAre, lists_itself, clash_listed}

pub declaration_at : (types : List Declaration) (places : List DeclPlaces) (k : ℕ) (s : Site) → slice_get (sites_of types places) k ≡ Some s → slice_get types k ≡ Some s.decl
declaration_at [] places k s e = absurd (none-some s e)
declaration_at (x ∷ xs) [] k s e = absurd (none-some s e)
declaration_at (x ∷ xs) (y ∷ ys) zero s e = ap (λ (z : Site). Some z.decl) (same_Some (record { decl = x; places = y }) s e)
declaration_at (x ∷ xs) (y ∷ ys) (suc k) s e = declaration_at xs ys k s e

same_itself : (d : Declaration) → lists_itself d ≡ lists_own d
same_itself (Interface name version id owner requires_ members) = refl
same_itself (Enum name version flags cases) = refl
same_itself (Struct name version fields) = refl
same_itself (Delegate name version id invoke) = refl
same_itself (Class name version fixed default has direct factories statics) = refl

same_clash : (types : List Declaration) (d : Declaration) → clash_listed types d ≡ clash_own types d
same_clash types (Interface name version id owner requires_ members) = refl
same_clash types (Enum name version flags cases) = refl
same_clash types (Struct name version fields) = refl
same_clash types (Delegate name version id invoke) = refl
same_clash types (Class name version fixed default has direct factories statics) = refl

module _ (types : List Declaration) (places : List DeclPlaces) (on : List Bool) (r : Option Entry) where
  pub open_first : FlagsAre (λ d. lacks types (listed_in d)) types on → IsFirst (Flagged (sites_of types places) on NotClosed) r → IsFirst (Among (sites_of types places) (IsNotClosed types)) r
  open_first f h = flags_test (sites_of types places) on NotClosed (λ s. lacks types (listed_in s.decl)) (λ k s at. f k s.decl (declaration_at types places k s at)) r h

  pub cyclic_first : FlagsAre lists_itself types on → IsFirst (Flagged (sites_of types places) on RequiresCycle) r → IsFirst (Among (sites_of types places) IsListedCycle) r
  cyclic_first f h = flags_test (sites_of types places) on RequiresCycle (λ s. lists_own s.decl) (λ k s at. f k s.decl (declaration_at types places k s at) ∙ same_itself s.decl) r h

  pub clash_first : FlagsAre (clash_listed types) types on → IsFirst (Flagged (sites_of types places) on MemberClash) r → IsFirst (Among (sites_of types places) (IsListedClash types)) r
  clash_first f h = flags_test (sites_of types places) on MemberClash (λ s. clash_own types s.decl) (λ k s at. f k s.decl (declaration_at types places k s at) ∙ same_clash types s.decl) r h

to : (A B C : Entry → Type 0) (e : Entry) → Or (Or A B) (Or A C) e → Or A (Or B C) e
unfolding Or
to A B C e (inl (inl a)) = inl a
to A B C e (inl (inr b)) = inr (inl b)
to A B C e (inr (inl a)) = inl a
to A B C e (inr (inr c)) = inr (inr c)

from : (A B C : Entry → Type 0) (e : Entry) → Or A (Or B C) e → Or (Or A B) (Or A C) e
unfolding Or
from A B C e (inl a) = inl (inl a)
from A B C e (inr (inl b)) = inl (inr b)
from A B C e (inr (inr c)) = inr (inr c)

-- two pairs that share a rule are three rules
pub as_three : (A B C : Entry → Type 0) (r : Option Entry) → IsFirst (Or (Or A B) (Or A C)) r → IsFirst (Or A (Or B C)) r
as_three A B C r h = same (Or (Or A B) (Or A C)) (Or A (Or B C)) r (to A B C) (from A B C) h
