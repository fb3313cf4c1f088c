-- Good declarations are proper, wherever they stand.
use Rattle.std.proofs.Common.{◌≡◌, ℕ, List, [], ◌∷◌, ◌++◌, Option, Some, None, length, get_or, refl, sym, subst, ◌∙◌, arith}
use Rattle.std.proofs.Common.{map as map_list}
use Rattle.std.specs.List.{All, filter_map, flat_map}
use Rattle.std.specs.declared.cmp.Ordering.TheVariants.{Less, Equal, Greater}
use Rattle.std.specs.Ordering.{nat_cmp}
use Rattle.std.specs.Cmp.Lexicographic.{slice_cmp, nat_list_cmp_total}
use Rattle.std.specs.FinMap as map
use Rattle.std.specs.FinMap.Entries.{by_order}
use Rattle.std.proofs.lemmas.List.Sorted.{All-permutation}
use Rattle.std.proofs.lemmas.List.Elements.{All-nil, All-cons, All-head, All-tail, All-append, All-map, All-weaker}
use Rattle.ranked.specs.declared.place.Place.{Place}
use Rattle.wr_base.specs.Normal.{normal}
use Rattle.wr_base.specs.Places.{plain_from}
use Rattle.wr_base.specs.Sets.{keyed, set_by}
use Rattle.wr_base.specs.Uses.{text_of}
use Rattle.wr_base.specs.declared.type_use.TypeUse.{TypeUse}
use Rattle.wr_base.specs.declared.declaration.Case.{Case}
use Rattle.wr_base.specs.declared.declaration.Field.{Field}
use Rattle.wr_base.specs.declared.declaration.Param.{Param}
use Rattle.wr_base.specs.declared.declaration.Signature.{Signature}
use Rattle.wr_base.specs.declared.declaration.Member.{Member}
use Rattle.wr_base.specs.declared.declaration.Member.TheVariants.{Method, Property, Event}
use Rattle.wr_base.specs.declared.declaration.Declaration.{Declaration}
use Rattle.wr_base.specs.declared.declaration.Declaration.TheVariants.{Enum, Struct, Delegate, Interface, Class}
use Rattle.wr_base.specs.declared.places.DeclPlaces.{DeclPlaces}
use Rattle.wr_rules.specs.Accepted.{IsName, IsAbiName, IsUse, abi_of, IsProper, Proper}
use Rattle.wr_rules.specs.Members.{Standing, standing, members_at, fields_at, member_name, signature_in}
use Rattle.wr_rules.specs.MemberRules.{with_spot}
use Rattle.wr_rules.specs.Sites.{Spot, Site, sites_of, spot_of, part_spot}
use Rattle.wr_rules.specs.Uses.{Role, field, passed, event, listed, Used, used_at, name_at, optional, signature_uses, uses_by, member_uses}
use Rattle.placed_items.specs.declared.placed.PlacedItem.{PlacedItem}
use Rattle.placed_items.specs.Named as given
use Rattle.placed_items.specs.Named.{HasNamedParams, IsNamedMember, AreNamed}
use Rattle.placed_items.specs.Applied.{AreApplied}
use Rattle.midl_names.specs.Items.{Source}
use Rattle.midl_names.specs.Declares.{Declares}
use Rattle.made_interfaces.specs.Made.{raw}
use Rattle.class_synthesis.specs.Full.{in_order, IsFull}
use Rattle.proper_sources.specs.Spelled.{AreSpelled}
use Rattle.proper_sources.proofs.Uses.{IsBounded, all_bounded}
use Rattle.proper_sources.proofs.Good.{IsGoodUse, IsGood, IsGoodSite, split_all, flat_split, flat_within, raw_good, closed_good, with_good}

-- ---- lists in order

nothing : {A : Type 0} (es : List A) → length es ≡ 0 → es ≡ []
nothing [] e = refl
nothing (x ∷ es) e = absurd (omega arith)

module _ {X : Type 0} (key : X → List ℕ) (P : X → Type 0) where
  abbrev Each : List (List ℕ × X) → Type 0
  Each [] = Unit {0}
  Each (e ∷ es) = P e.1 × Each es

  each_put : (k : List ℕ) (v : X) (es : List (List ℕ × X)) → P v → Each es → Each (map.put (slice_cmp nat_cmp) k v es)
  each_put k v [] p h = (p, tt)
  each_put k v (x ∷ es) p h =
      elim (slice_cmp nat_cmp k x.0) as (λ r. Each (by_order r ((k, v) ∷ x ∷ es) ((x.0, v) ∷ es) (x ∷ map.put (slice_cmp nat_cmp) k v es))) [
        | Less ↦ (p, h)
        | Equal ↦ (p, h.1)
        | Greater ↦ (h.0, each_put k v es p h.1)
      ]

  each_kept : (items : List X) → All P items → Each (map.entries (map.from_entries {R = slice_cmp nat_cmp} (keyed key items)))
  each_kept [] h = subst Each (sym (nothing _ (sym (map.len-entries map.empty) ∙ map.len-empty (slice_cmp nat_cmp) X))) tt
  each_kept (x ∷ items) h =
      subst Each (sym (map.entries-insert nat_list_cmp_total _ (key x) x)) (each_put (key x) x _ (All-head P x items h) (each_kept items (All-tail P x items h)))

  each_value : (es : List (List ℕ × X)) → Each es → All P (map_list (λ e. e.1) es)
  each_value [] h = All-nil P
  each_value (e ∷ es) h = All-cons P e.1 (map_list (λ e. e.1) es) h.0 (each_value es h.1)

  pub All-set_by : (items : List X) → All P items → All P (set_by key items)
  All-set_by items h = each_value _ (each_kept items h)

normal_good : (d : Declaration) → IsGood d → IsGood (normal d)
normal_good (Enum name version flags cases) h = h
normal_good (Struct name version fields) h = h
normal_good (Delegate name version own invoke) h = h
normal_good (Interface name version own owner requires_ members) h =
    with_good (set_by text_of requires_) (Interface name version own owner requires_ members)
    (All-set_by text_of IsGoodUse requires_ (split_all IsGoodUse requires_ (flat_map given.member_uses members) h.uses).0) h
normal_good (Class name version fixed default has direct factories statics) h =
    let s = split_all IsGoodUse (given.result_uses default) has h.uses in
    record { named = tt; uses = All-append IsGoodUse (given.result_uses default) (set_by text_of has) s.0 (All-set_by text_of IsGoodUse has s.1) }

-- ---- parts where they stand

name_as : (text : List ℕ) → given.IsName text → IsName text
name_as text h = record { identifier = h.identifier; short = h.short }

stands : {X : Type 0} (Q : X → Type 0) (s : Site) (name : X → List ℕ) (xs : List X) (ps : List Place) → All Q xs → All (λ (x : Standing X). Q x.part) (standing s name xs ps)
stands {X} Q s name [] ps h = All-nil (λ (x : Standing X). Q x.part)
stands {X} Q s name (x ∷ xs) [] h = All-nil (λ (x : Standing X). Q x.part)
stands {X} Q s name (x ∷ xs) (p ∷ ps) h =
    All-cons (λ (x : Standing X). Q x.part) (record { part = x; spot = part_spot s p (name x) }) (standing s name xs ps) (All-head Q x xs h) (stands Q s name xs ps (All-tail Q x xs h))

un_map : {X Y : Type 0} (P : Y → Type 0) (f : X → Y) (xs : List X) → All P (map_list f xs) → All (λ x. P (f x)) xs
un_map P f [] h = All-nil (λ x. P (f x))
un_map P f (x ∷ xs) h = All-cons (λ y. P (f y)) x xs (All-head P (f x) (map_list f xs) h) (un_map P f xs (All-tail P (f x) (map_list f xs) h))

abbrev HasNames : Standing Signature → Type 0
HasNames g = All (λ (p : Param). IsName p.name) g.part.params

params_as : (sig : Signature) → HasNamedParams sig → All (λ (p : Param). IsName p.name) sig.params
params_as sig h = All-weaker (λ (p : Param). given.IsName p.name) (λ (p : Param). IsName p.name) (λ p g. name_as p.name g) sig.params h

abbrev signed_at : Standing Member → Option (Standing Signature)
signed_at m = with_spot m.spot (signature_in m.part)

signed : (spot : Spot) (m : Member) (ms : List (Standing Member)) → IsNamedMember m → All HasNames (filter_map signed_at ms) → All HasNames (filter_map signed_at (record { part = m; spot = spot } ∷ ms))
signed spot (Method name abi sig) ms h r = All-cons HasNames (record { part = sig; spot = spot }) (filter_map signed_at ms) (params_as sig h.params) r
signed spot (Property name ty put) ms h r = r
signed spot (Event name ty) ms h r = r

all_signed : (ms : List (Standing Member)) → All (λ (m : Standing Member). IsNamedMember m.part) ms → All HasNames (filter_map signed_at ms)
all_signed [] h = All-nil HasNames
all_signed (m ∷ ms) h =
    signed m.spot m.part ms (All-head (λ (m : Standing Member). IsNamedMember m.part) m ms h) (all_signed ms (All-tail (λ (m : Standing Member). IsNamedMember m.part) m ms h))

own_name : (m : Member) → IsNamedMember m → IsName (member_name m)
own_name (Method name abi sig) h = name_as name h.own
own_name (Property name ty put) h = name_as name h
own_name (Event name ty) h = name_as name h

own_abi : (m : Member) → IsNamedMember m → IsAbiName (abi_of m)
own_abi (Method name abi sig) h = record { identifier = h.abi_own.identifier; short = h.abi_own.short }
own_abi (Property name ty put) h = record { identifier = h.identifier; short = omega (arith, h.short) }
own_abi (Event name ty) h = record { identifier = h.identifier; short = omega (arith, h.short) }

-- ---- uses where they stand

abbrev IsUsed : Used → Type 0
IsUsed u = IsUse u.use_

optional_used : (role : Role) (spot : Spot) (o : Option TypeUse) → All IsGoodUse (given.result_uses o) → All IsUsed (optional role spot o)
optional_used role spot None h = All-nil IsUsed
optional_used role spot (Some u) h = All-cons IsUsed (used_at role spot u) [] (All-head IsGoodUse u [] h) (All-nil IsUsed)

signature_used : (spot : Spot) (s : Signature) → All IsGoodUse (given.signature_uses s) → All IsUsed (signature_uses spot s)
signature_used spot s h =
    let parts = split_all IsGoodUse (map_list (λ (p : Param). p.ty) s.params) (given.result_uses s.result) h in
    All-append IsUsed (map_list (λ (p : Param). used_at passed spot p.ty) s.params) (optional passed spot s.result)
    (All-map IsUsed (λ (p : Param). used_at passed spot p.ty) s.params (un_map IsGoodUse (λ (p : Param). p.ty) s.params parts.0))
    (optional_used passed spot s.result parts.1)

member_used : (spot : Spot) (m : Member) → All IsGoodUse (given.member_uses m) → All IsUsed (uses_by spot m)
member_used spot (Method name abi sig) h = signature_used spot sig h
member_used spot (Property name ty put) h = All-cons IsUsed (used_at passed spot ty) [] (All-head IsGoodUse ty [] h) (All-nil IsUsed)
member_used spot (Event name ty) h = All-cons IsUsed (used_at event spot ty) [] (All-head IsGoodUse ty [] h) (All-nil IsUsed)

names_used : (spot : Spot) (names : List (List ℕ)) → All IsUsed (map_list (name_at spot) names)
names_used spot names = All-map IsUsed (name_at spot) names (λ k d l. record { shallow = omega arith; applied = refl })

list_used : (spot : Spot) (us : List TypeUse) → All IsGoodUse us → All IsUsed (map_list (used_at listed spot) us)
list_used spot us h = All-map IsUsed (used_at listed spot) us h

-- ---- a declaration where it stands

is_proper : (d : Declaration) (p : DeclPlaces) → IsGood d → IsProper (record { decl = d; places = p })
is_proper (Enum name version flags cases) p h = record {
  cases = All-weaker (λ (c : Case). given.IsName c.name) (λ (c : Case). IsName c.name) (λ c g. name_as c.name g) cases h.named;
  fields = All-nil (λ (f : Field). IsName f.name);
  members = All-nil (λ m. IsName (member_name m));
  abis = All-nil (λ m. IsAbiName (abi_of m));
  params = All-nil HasNames;
  uses = All-nil IsUsed;
}
is_proper (Struct name version fields) p h = record {
  cases = All-nil (λ (c : Case). IsName c.name);
  fields = All-weaker (λ (f : Field). given.IsName f.name) (λ (f : Field). IsName f.name) (λ f g. name_as f.name g) fields h.named;
  members = All-nil (λ m. IsName (member_name m));
  abis = All-nil (λ m. IsAbiName (abi_of m));
  params = All-nil HasNames;
  uses = All-map IsUsed (λ (f : Standing Field). used_at field f.spot f.part.ty) (fields_at site)
      (stands (λ (f : Field). IsGoodUse f.ty) site (λ f. f.name) fields p.parts (un_map IsGoodUse (λ (f : Field). f.ty) fields h.uses));
}
  where
    site : Site
    site = record { decl = Struct name version fields; places = p }
is_proper (Delegate name version own invoke) p h = record {
  cases = All-nil (λ (c : Case). IsName c.name);
  fields = All-nil (λ (f : Field). IsName f.name);
  members = All-nil (λ m. IsName (member_name m));
  abis = All-nil (λ m. IsAbiName (abi_of m));
  params = All-cons HasNames (record { part = invoke; spot = spot_of (record { decl = Delegate name version own invoke; places = p }) }) [] (params_as invoke h.named) (All-nil HasNames);
  uses = signature_used (spot_of (record { decl = Delegate name version own invoke; places = p })) invoke h.uses;
}
is_proper (Interface name version own owner requires_ members) p h = record {
  cases = All-nil (λ (c : Case). IsName c.name);
  fields = All-nil (λ (f : Field). IsName f.name);
  members = All-weaker IsNamedMember (λ m. IsName (member_name m)) own_name members h.named;
  abis = All-weaker IsNamedMember (λ m. IsAbiName (abi_of m)) own_abi members h.named;
  params = all_signed (members_at site) (stands IsNamedMember site member_name members p.parts h.named);
  uses = All-append IsUsed (map_list (used_at listed (spot_of site)) requires_) (flat_map member_uses (members_at site))
      (list_used (spot_of site) requires_ (split_all IsGoodUse requires_ (flat_map given.member_uses members) h.uses).0)
      (flat_within IsUsed member_uses (members_at site) (λ k e l. member_used (get_or (members_at site) k e).spot (get_or (members_at site) k e).part
      (stands (λ m. All IsGoodUse (given.member_uses m)) site member_name members p.parts (flat_split IsGoodUse given.member_uses members (split_all IsGoodUse requires_ (flat_map given.member_uses members) h.uses).1) k e l)));
}
  where
    site : Site
    site = record { decl = Interface name version own owner requires_ members; places = p }
is_proper (Class name version fixed default has direct factories statics) p h = record {
  cases = All-nil (λ (c : Case). IsName c.name);
  fields = All-nil (λ (f : Field). IsName f.name);
  members = All-nil (λ m. IsName (member_name m));
  abis = All-nil (λ m. IsAbiName (abi_of m));
  params = All-nil HasNames;
  uses =
      All-append IsUsed (optional listed spot default ++ map_list (used_at listed spot) has ++ map_list (name_at spot) factories) (map_list (name_at spot) statics)
      (All-append IsUsed (optional listed spot default ++ map_list (used_at listed spot) has) (map_list (name_at spot) factories)
      (All-append IsUsed (optional listed spot default) (map_list (used_at listed spot) has)
      (optional_used listed spot default (split_all IsGoodUse (given.result_uses default) has h.uses).0)
      (list_used spot has (split_all IsGoodUse (given.result_uses default) has h.uses).1))
      (names_used spot factories))
      (names_used spot statics);
}
  where
    spot : Spot
    spot = spot_of (record { decl = Class name version fixed default has direct factories statics; places = p })

-- ---- the set

decls_good : (types : List Declaration) (places : List DeclPlaces) → length places ≡ length types → All IsGoodSite (sites_of types places) → All IsGood types
decls_good [] ps n h = All-nil IsGood
decls_good (d ∷ ds) [] n h = absurd (omega (arith, n))
decls_good (d ∷ ds) (p ∷ ps) n h =
    All-cons IsGood d ds (All-head IsGoodSite (record { decl = d; places = p }) (sites_of ds ps) h) (decls_good ds ps (omega (arith, n)) (All-tail IsGoodSite (record { decl = d; places = p }) (sites_of ds ps) h))

all_proper : (types : List Declaration) (places : List DeclPlaces) → All IsGood types → All IsProper (sites_of types places)
all_proper [] ps h = All-nil IsProper
all_proper (d ∷ ds) [] h = All-nil IsProper
all_proper (d ∷ ds) (p ∷ ps) h = All-cons IsProper (record { decl = d; places = p }) (sites_of ds ps) (is_proper d p (All-head IsGood d ds h)) (all_proper ds ps (All-tail IsGood d ds h))

pub full_good : (items : List PlacedItem) (types : List Declaration) (places : List DeclPlaces) → All IsBounded items → AreNamed items → AreApplied items → IsFull items types places → All IsGood types
full_good items types places bounded named applied full =
    let raws : All IsGoodSite (raw items) = raw_good items bounded named applied in
    let decls : All IsGood (map_list (λ (s : Site). s.decl) (raw items)) = All-map IsGood (λ (s : Site). s.decl) (raw items) raws in
    let closed : All IsGoodSite full.closed = closed_good (map_list (λ (s : Site). s.decl) (raw items)) (raw items) full.closed decls full.each raws in
    decls_good types places full.size
    (All-permutation IsGoodSite (map_list in_order full.closed) (sites_of types places) full.sites
    (All-map IsGoodSite in_order full.closed (All-weaker IsGoodSite (λ s. IsGood (normal s.decl)) (λ s g. normal_good s.decl g) full.closed closed)))

pub sources_proper : (sources : List Source) (types : List Declaration) (places : List DeclPlaces) → AreSpelled sources → AreNamed (Declares sources) → AreApplied (Declares sources) → IsFull (Declares sources) types places → Proper types
sources_proper sources types places spelled named applied full =
    all_proper types (plain_from 0 types) (full_good (Declares sources) types places (all_bounded sources spelled) named applied full)
