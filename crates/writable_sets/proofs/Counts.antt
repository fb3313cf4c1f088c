-- How many types and names there are where no limit is passed.
use Rattle.std.proofs.Common.{◌≡◌, ℕ, zero, suc, ◌+◌, ◌<◌, ◌≤◌, Bool, true, false, ◌&&◌, ◌||◌, cond, List, [], ◌∷◌, ◌++◌, Option, map, length, take, get_or, sum, refl, sym, ap, subst, ◌∙◌, arith, true≢false, inl, inr, eq-eqb}
use Rattle.std.specs.Prelude.{nat_lt, nat_le}
use Rattle.std.specs.List.{filter_map}
use Rattle.std.proofs.lemmas.Bool.{lt-ltb, le-ltb, le-leb, ltb-true}
use Rattle.std.proofs.lemmas.List.{length-map, length-take, take_all, take_more}
use Rattle.std.proofs.lemmas.List.Sums.{sum_by-cons}
use Rattle.ranked.specs.First.{Clear}
use Rattle.ranked.specs.declared.place.Place.{Place}
use Rattle.winmd_sets.specs.Types.{sum_of, params_in, all_parts_of}
use Rattle.wr_base.proofs.PartLaws.{either}
use Rattle.wr_base.specs.Places.{part_count, numbered, placed, plain_from}
use Rattle.wr_base.specs.Trees.{decl_tree, member_tree, param_tree, field_tree}
use Rattle.wr_base.specs.declared.declaration.Signature.{Signature}
use Rattle.wr_base.specs.declared.declaration.Member.{Member}
use Rattle.wr_base.specs.declared.declaration.Member.TheVariants.{Method, Property, Event}
use Rattle.wr_base.specs.declared.declaration.Declaration.{Declaration}
use Rattle.wr_base.specs.declared.declaration.Declaration.TheVariants.{Enum, Struct, Delegate, Interface, Class}
use Rattle.wr_rules.specs.Limits.{place_same, before, sum_by, passes, names_in, Limits}
use Rattle.wr_rules.specs.MemberRules.{with_spot}
use Rattle.wr_rules.specs.Members.{Standing, standing, member_name, signature_in}
use Rattle.wr_rules.specs.Sites.{Spot, Site, sites_of, part_spot, spot_of}
use Rattle.writable_sets.proofs.Facts.{LimitFacts, limit_facts}

-- ---- sites in plain places

abbrev pub plain_sites : ℕ → List Declaration → List Site
plain_sites n ds = sites_of ds (plain_from n ds)

abbrev at_offset : ℕ → Place
at_offset n = record { file = 0; offset = n }

abbrev offset_at : ℕ → List Declaration → ℕ → ℕ
offset_at n [] k = n
offset_at n (d ∷ ds) zero = n
offset_at n (d ∷ ds) (suc k) = offset_at (n + 1 + part_count d) ds k

pub plain_length : (n : ℕ) (ds : List Declaration) → length (plain_sites n ds) ≡ length ds
plain_length n [] = refl
plain_length n (d ∷ ds) = ap suc (plain_length (n + 1 + part_count d) ds)

no_less : (n : ℕ) (ds : List Declaration) (k : ℕ) → n ≤ offset_at n ds k
no_less n [] k = omega arith
no_less n (d ∷ ds) zero = omega arith
no_less n (d ∷ ds) (suc k) = omega (arith, no_less (n + 1 + part_count d) ds k)

stands_at : (n : ℕ) (ds : List Declaration) (k : ℕ) (s : Site) → k < length ds → (get_or (plain_sites n ds) k s).places.at ≡ at_offset (offset_at n ds k)
stands_at n [] k s l = absurd (omega (arith, l))
stands_at n (d ∷ ds) zero s l = refl
stands_at n (d ∷ ds) (suc k) s l = stands_at (n + 1 + part_count d) ds k s (omega (arith, l))

none_before : (n m : ℕ) (ds : List Declaration) → m ≤ n → before zero (at_offset m) (plain_sites n ds) ≡ []
none_before n m [] l = refl
none_before n m (d ∷ ds) l =
    ap (λ b. cond b (record { decl = d; places = placed n d } ∷ before zero (at_offset m) (plain_sites (n + 1 + part_count d) ds)) (before zero (at_offset m) (plain_sites (n + 1 + part_count d) ds))) (le-ltb n m l)
    ∙ none_before (n + 1 + part_count d) m ds (omega (arith, l))

-- those before one are those in front of it
before_is : (n : ℕ) (ds : List Declaration) (k : ℕ) → k < length ds → before k (at_offset (offset_at n ds k)) (plain_sites n ds) ≡ take k (plain_sites n ds)
before_is n [] k l = absurd (omega (arith, l))
before_is n (d ∷ ds) zero l = none_before n n (d ∷ ds) (omega arith)
before_is n (d ∷ ds) (suc k) l =
    let m : ℕ = n + 1 + part_count d in
    let o : ℕ = offset_at m ds k in
    ap (λ b. cond (b || place_same (at_offset n) (at_offset o)) (record { decl = d; places = placed n d } ∷ before k (at_offset o) (plain_sites m ds)) (before k (at_offset o) (plain_sites m ds))) (lt-ltb n o (omega (arith, no_less m ds k)))
    ∙ ap (λ (ss : List Site). record { decl = d; places = placed n d } ∷ ss) (before_is m ds k (omega (arith, l)))

-- ---- sums

sum_one : (f : Site → ℕ) (s : Site) (ss : List Site) → sum_by f (s ∷ ss) ≡ f s + sum_by f ss
sum_one f s ss = sum_by-cons (λ n. n) (f s) (map f ss)

sum_push : (f : Site → ℕ) (ss : List Site) (s : Site) → sum_by f (ss ++ s ∷ []) ≡ sum_by f ss + f s
sum_push f [] s = omega (arith, sum_one f s [])
sum_push f (t ∷ ts) s = omega (arith, sum_one f t (ts ++ s ∷ []), sum_push f ts s, sum_one f t ts)

not_and : (b c : Bool) → (b && c) ≡ false → b ≡ true → c ≡ false
not_and true c h e = h
not_and false c h e = absurd (true≢false (sym e))

no_more : (m n : ℕ) → nat_lt m n ≡ false → n ≤ m
no_more m n h = grind (arith, h)

module _ (types : List Declaration) (clear : Clear (Limits (plain_sites 0 types))) where
  facts : (k : ℕ) (s : Site) → k < length types → LimitFacts (plain_sites 0 types) k (get_or (plain_sites 0 types) k s)
  facts k s l = limit_facts (plain_sites 0 types) clear k s (omega (arith, l, plain_length 0 types))

  front : (k : ℕ) (s : Site) → k < length types → before k (get_or (plain_sites 0 types) k s).places.at (plain_sites 0 types) ≡ take k (plain_sites 0 types)
  front k s l = ap (λ at. before k at (plain_sites 0 types)) (stands_at 0 types k s l) ∙ before_is 0 types k l

  some_site : Site
  some_site = record { decl = Enum [] 0 false []; places = record { at = at_offset 0; parts = [] } }

  pub few_types : length types ≤ 20000
  few_types = elim (either (nat_lt 20000 (length types))) [
    | inl e ↦
        (let l : 20000 < length types = ltb-true 20000 (length types) e in
        let n : length (take 20000 (plain_sites 0 types)) ≡ 20000 = omega (arith, l, plain_length 0 types, length-take 20000 (plain_sites 0 types)) in
        absurd (true≢false (sym (eq-eqb (length (before 20000 (get_or (plain_sites 0 types) 20000 some_site).places.at (plain_sites 0 types))) 20000 (ap length (front 20000 some_site l) ∙ n)) ∙ (facts 20000 some_site l).types)))
    | inr e ↦ no_more 20000 (length types) e
  ]

  pub few_names_to : (k : ℕ) → k ≤ length types → sum_by names_in (take k (plain_sites 0 types)) ≤ 500000
  few_names_to zero l = omega arith
  few_names_to (suc k) l =
      let in_ : k < length types = omega (arith, l) in
      let s : Site = get_or (plain_sites 0 types) k some_site in
      let held : sum_by names_in (take k (plain_sites 0 types)) ≤ 500000 = few_names_to k (omega (arith, l)) in
      let pass : passes names_in 500000 (take k (plain_sites 0 types)) s ≡ false = ap (λ ss. passes names_in 500000 ss s) (sym (front k some_site in_)) ∙ (facts k some_site in_).names in
      let all : sum_by names_in (take k (plain_sites 0 types)) + names_in s ≤ 500000 =
      no_more 500000 (sum_by names_in (take k (plain_sites 0 types)) + names_in s) (not_and (nat_le (sum_by names_in (take k (plain_sites 0 types))) 500000) _ pass (le-leb (sum_by names_in (take k (plain_sites 0 types))) 500000 held)) in
      let more : take (k + 1) (plain_sites 0 types) ≡ take k (plain_sites 0 types) ++ s ∷ [] = take_more (plain_sites 0 types) k some_site (omega (arith, l, plain_length 0 types)) in
      let one : suc k ≡ k + 1 = omega arith in
      let same : sum_by names_in (take (suc k) (plain_sites 0 types)) ≡ sum_by names_in (take k (plain_sites 0 types) ++ s ∷ []) = ap (λ j. sum_by names_in (take j (plain_sites 0 types))) one ∙ ap (sum_by names_in) more in
      omega (arith, all, same, sum_push names_in (take k (plain_sites 0 types)) s)

  pub few_names : sum_by names_in (plain_sites 0 types) ≤ 500000
  few_names = subst (λ ss. sum_by names_in ss ≤ 500000) (take_all (length types) (plain_sites 0 types) (omega (arith, plain_length 0 types))) (few_names_to (length types) (omega arith))

-- ---- names of a declaration

abbrev params_of : Standing Signature → ℕ
params_of g = length g.part.params

abbrev signed_at : Standing Member → Option (Standing Signature)
signed_at m = with_spot m.spot (signature_in m.part)

sum_sig : (g : Standing Signature) (gs : List (Standing Signature)) → sum (map params_of (g ∷ gs)) ≡ params_of g + sum (map params_of gs)
sum_sig g gs = sum_by-cons (λ n. n) (params_of g) (map params_of gs)

signed_params : (spot : Spot) (m : Member) (ms : List (Standing Member)) → sum (map params_of (filter_map signed_at (record { part = m; spot = spot } ∷ ms))) ≡ params_in (member_tree m) + sum (map params_of (filter_map signed_at ms))
signed_params spot (Method name abi sig) ms = omega (arith, sum_sig (record { part = sig; spot = spot }) (filter_map signed_at ms), length-map sig.params param_tree)
signed_params spot (Property name ty put) ms = omega arith
signed_params spot (Event name ty) ms = omega arith

member_params : (s : Site) (n : ℕ) (ms : List Member) → sum (map params_of (filter_map signed_at (standing s member_name ms (numbered n (length ms))))) ≡ sum_of params_in (map member_tree ms)
member_params s n [] = refl
member_params s n (m ∷ ms) = omega (arith, signed_params (part_spot s (at_offset n) (member_name m)) m (standing s member_name ms (numbered (n + 1) (length ms))), member_params s (n + 1) ms)

decl_names : (n : ℕ) (d : Declaration) → all_parts_of (decl_tree d) ≤ names_in (record { decl = d; places = placed n d })
decl_names n (Enum name version flags cases) = omega arith
decl_names n (Struct name version fields) = omega (arith, length-map fields field_tree)
decl_names n (Delegate name version id invoke) =
    omega (arith, length-map invoke.params param_tree, sum_sig (record { part = invoke; spot = spot_of (record { decl = Delegate name version id invoke; places = placed n (Delegate name version id invoke) }) }) [])
decl_names n (Interface name version id owner requires_ members) =
    omega (arith, length-map members member_tree, member_params (record { decl = Interface name version id owner requires_ members; places = placed n (Interface name version id owner requires_ members) }) (n + 1) members)
decl_names n (Class name version fixed default has direct factories statics) = omega arith

all_names : (n : ℕ) (ds : List Declaration) → sum_of all_parts_of (map decl_tree ds) ≤ sum_by names_in (plain_sites n ds)
all_names n [] = omega arith
all_names n (d ∷ ds) = omega (arith, decl_names n d, all_names (n + 1 + part_count d) ds, sum_one names_in (record { decl = d; places = placed n d }) (plain_sites (n + 1 + part_count d) ds))

pub small_types : (types : List Declaration) → Clear (Limits (plain_sites 0 types)) → sum_of all_parts_of (map decl_tree types) ≤ 500000
small_types types clear = omega (arith, all_names 0 types, few_names types clear)

-- ---- each site

pub numbered_length : (from n : ℕ) → length (numbered from n) ≡ n
numbered_length from zero = refl
numbered_length from (suc n) = ap suc (numbered_length (from + 1) n)

abbrev pub plain_site : List Declaration → ℕ → Declaration → Site
plain_site types k d = record { decl = get_or types k d; places = placed (offset_at 0 types k) (get_or types k d) }

site_from : (n : ℕ) (ds : List Declaration) (k : ℕ) (s : Site) (d : Declaration) → k < length ds → get_or (plain_sites n ds) k s ≡ record { decl = get_or ds k d; places = placed (offset_at n ds k) (get_or ds k d) }
site_from n [] k s d l = absurd (omega (arith, l))
site_from n (x ∷ ds) zero s d l = refl
site_from n (x ∷ ds) (suc k) s d l = site_from (n + 1 + part_count x) ds k s d (omega (arith, l))

pub site_is : (types : List Declaration) (k : ℕ) (s : Site) (d : Declaration) → k < length types → get_or (plain_sites 0 types) k s ≡ plain_site types k d
site_is types k s d l = site_from 0 types k s d l

pub plain_parts : (types : List Declaration) (k : ℕ) (d : Declaration) → part_count (get_or types k d) ≤ length (plain_site types k d).places.parts
plain_parts types k d = omega (arith, numbered_length (offset_at 0 types k + 1) (part_count (get_or types k d)))
