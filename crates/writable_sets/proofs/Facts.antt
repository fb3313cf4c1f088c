-- What holds at each declaration where nothing is broken.
use Rattle.std.proofs.Common.{◌≡◌, ℕ, ◌<◌, Bool, true, false, not, ◌&&◌, ◌==◌, List, inl, inr, length, get_or, refl}
use Rattle.std.specs.Prelude.{nat_lt}
use Rattle.std.specs.List.{All}
use Rattle.std.proofs.lemmas.Option.{slice_get-get_or}
use Rattle.ranked.specs.Entries.{Entry}
use Rattle.ranked.specs.First.{Or, Below, At, Among, Where, Clear}
use Rattle.wr_base.specs.Places.{part_count}
use Rattle.wr_base.specs.Trees.{within}
use Rattle.wr_base.specs.declared.code.Code.{Code}
use Rattle.wr_base.specs.declared.declaration.Declaration.{Declaration}
use Rattle.wr_base.specs.declared.places.DeclPlaces.{DeclPlaces}
use Rattle.wr_rules.specs.Accepted.{Rules, Broken}
use Rattle.wr_rules.specs.Limits.{is_long_name, before, passes, names_in, LimitAt, Limits}
use Rattle.wr_rules.specs.ListRules.{misses_default}
use Rattle.wr_rules.specs.MemberRules.{fits, is_flags, signatures_at}
use Rattle.wr_rules.specs.Members.{cases_at}
use Rattle.wr_rules.specs.Sites.{Spot, Site, sites_of, site_name, broken_at, If}
use Rattle.wr_rules.specs.UseRules.{unresolved, wrong_kind, is_by_name, is_event, is_listed, is_delegate, is_interface, has_kind}
use Rattle.wr_rules.specs.Kinds.{kind_used}
use Rattle.wr_rules.specs.Uses.{Used, uses_at}

pub left_clear : (A B : Entry → Type 0) → Clear (Or A B) → Clear A
unfolding Clear Or
left_clear A B c e a = c e (inl a)

pub right_clear : (A B : Entry → Type 0) → Clear (Or A B) → Clear B
unfolding Clear Or
right_clear A B c e b = c e (inr b)

later_clear : (A B : Entry → Type 0) → Clear (Or A (Where (Clear A) B)) → Clear B
unfolding Clear Or Where
later_clear A B c e b = c e (inr ((λ x a. c x (inl a)), b))

pub among_clear : {X : Type 0} (xs : List X) (broken : X → Entry → Type 0) → Clear (Among xs broken) → All (λ x. Clear (broken x)) xs
unfolding Clear Below At
among_clear xs broken c k d l e b = c e (k, l, (get_or xs k d, slice_get-get_or xs k d l, b))

limit_clear : (sites : List Site) → Clear (Limits sites) → (k : ℕ) (d : Site) → k < length sites → Clear (LimitAt sites k (get_or sites k d))
unfolding Clear Below At
limit_clear sites c k d l e b = c e (k, l, (get_or sites k d, slice_get-get_or sites k d l, b))

if_clear : (test : Bool) (code : Code) (spot : Spot) → Clear (If test code spot) → test ≡ false
unfolding Clear If
if_clear true code spot c = absurd (c (broken_at code spot) refl)
if_clear false code spot c = refl

each_clear : {X : Type 0} (xs : List X) (test : X → Bool) (code : Code) (spot : X → Spot) → Clear (Among xs (λ x. If (test x) code (spot x))) → All (λ x. test x ≡ false) xs
each_clear xs test code spot c k d l = if_clear (test (get_or xs k d)) code (spot (get_or xs k d)) (among_clear xs (λ x. If (test x) code (spot x)) c k d l)

-- ---- rules and limits at one declaration

pub record RuleFacts (types : List Declaration) (s : Site) : Type 0 where
  pub resolved : All (λ (u : Used). All (λ v. unresolved types v ≡ false) (within u.use_)) (uses_at s)
  pub kinds : All (λ (u : Used). All (λ v. (not (is_by_name u.role) && wrong_kind types v) ≡ false) (within u.use_)) (uses_at s)
  pub default : misses_default types s.decl ≡ false
  pub range : All (λ c. not (fits (is_flags s.decl) c.part.value) ≡ false) (cases_at s)
  pub events : All (λ (u : Used). (is_event u.role && not (has_kind is_delegate (kind_used types u.use_))) ≡ false) (uses_at s)
  pub lists : All (λ (u : Used). (is_listed u.role && not (has_kind is_interface (kind_used types u.use_))) ≡ false) (uses_at s)

pub record LimitFacts (sites : List Site) (k : ℕ) (s : Site) : Type 0 where
  pub types : (length (before k s.places.at sites) == 20000) ≡ false
  pub members : nat_lt 4000 (part_count s.decl) ≡ false
  pub params : All (λ g. nat_lt 64 (length g.part.params) ≡ false) (signatures_at s)
  pub short : is_long_name (site_name s) ≡ false
  pub names : passes names_in 500000 (before k s.places.at sites) s ≡ false

pub limit_facts : (sites : List Site) → Clear (Limits sites) → (k : ℕ) (d : Site) → k < length sites → LimitFacts sites k (get_or sites k d)
limit_facts sites c k d l =
    let s : Site = get_or sites k d in
    let here : Clear (LimitAt sites k s) = limit_clear sites c k d l in
    let second = right_clear _ _ here in
    let third = right_clear _ _ second in
    let fourth = right_clear _ _ third in
    record {
      types = if_clear _ _ _ (left_clear _ _ here);
      members = if_clear _ _ _ (left_clear _ _ second);
      params = each_clear (signatures_at s) (λ g. nat_lt 64 (length g.part.params)) _ (λ g. g.spot) (left_clear _ _ third);
      short = if_clear _ _ _ (left_clear _ _ fourth);
      names = if_clear _ _ _ (left_clear _ _ (right_clear _ _ fourth));
    }

module _ (types : List Declaration) (sites : List Site) (c : Clear (Rules types sites)) where
  pub rule_facts : (k : ℕ) (d : Site) → k < length sites → RuleFacts types (get_or sites k d)
  rule_facts k d l =
      let s : Site = get_or sites k d in
      let c1 = right_clear _ _ c in
      let c2 = right_clear _ _ c1 in
      let c3 = right_clear _ _ c2 in
      let c7 = right_clear _ _ (right_clear _ _ (right_clear _ _ (right_clear _ _ c3))) in
      let c14 = right_clear _ _ (right_clear _ _ (right_clear _ _ (right_clear _ _ (right_clear _ _ (right_clear _ _ (right_clear _ _ c7)))))) in
      let c20 = right_clear _ _ (right_clear _ _ (right_clear _ _ (right_clear _ _ (right_clear _ _ (right_clear _ _ c14))))) in
      record {
        resolved = (λ i u m. each_clear (within (get_or (uses_at s) i u).use_) (λ v. unresolved types v) _ (λ v. (get_or (uses_at s) i u).spot) (among_clear (uses_at s) _ (among_clear sites _ (left_clear _ _ c) k d l) i u m));
        kinds = (λ i u m. each_clear (within (get_or (uses_at s) i u).use_) (λ v. not (is_by_name (get_or (uses_at s) i u).role) && wrong_kind types v) _ (λ v. (get_or (uses_at s) i u).spot) (among_clear (uses_at s) _ (among_clear sites _ (left_clear _ _ c1) k d l) i u m));
        default = if_clear _ _ _ (among_clear sites _ (left_clear _ _ c3) k d l);
        range = each_clear (cases_at s) (λ c. not (fits (is_flags s.decl) c.part.value)) _ (λ c. c.spot) (among_clear sites _ (left_clear _ _ c7) k d l);
        events = each_clear (uses_at s) (λ u. is_event u.role && not (has_kind is_delegate (kind_used types u.use_))) _ (λ u. u.spot) (among_clear sites _ (left_clear _ _ c14) k d l);
        lists = each_clear (uses_at s) (λ u. is_listed u.role && not (has_kind is_interface (kind_used types u.use_))) _ (λ u. u.spot) (among_clear sites _ (left_clear _ _ c20) k d l);
      }

pub broken_parts : (types : List Declaration) (places : List DeclPlaces) → Clear (Broken types places) → Clear (Rules types (sites_of types places)) × Clear (Limits (sites_of types places))
broken_parts types places c = (left_clear _ _ c, later_clear _ _ c)
