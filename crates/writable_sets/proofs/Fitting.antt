-- A declaration at which nothing is broken is one that rows can state.
use Rattle.std.proofs.Common.{◌≡◌, ℕ, ◌-◌, ◌≤◌, ◌^◌, ℤ, pos, negsuc, ◌≤ℤ◌, int_le, Bool, true, false, not, ◌&&◌, List, [], ◌∷◌, ◌++◌, Option, Some, None, map, length, get_or, refl, sym, ap, subst, ◌∙◌, arith, true≢false}
use Rattle.std.specs.Prelude.{nat_lt, ⊤}
use Rattle.std.specs.List.{All, AllByRecursion, filter, filter_map, flat_map}
use Rattle.std.specs.Option.{option_map}
use Rattle.std.specs.Ordering.{nat_cmp}
use Rattle.std.specs.Cmp.Lexicographic.{slice_cmp}
use lib.Signed.{le_z_yes}
use lib.Dec.{T}
use Rattle.std.proofs.lemmas.List.{length-map}
use Rattle.std.proofs.lemmas.List.Elements.{All-nil, All-cons, All-head, All-tail}
use Rattle.ranked.specs.declared.place.Place.{Place}
use Rattle.winmd_lines.specs.Orders.{Rising}
use Rattle.winmd_sets.specs.Declared.{is_default}
use Rattle.winmd_sets.specs.Fits.{IsPart, UseFits, CellFits, IsInt32, ValueFits, CaseFits, FieldFits, ParamFits, ResultFits, SignatureFits, MethodFits, MemberFits, OwnerFits, listed_default, DeclFits}
use Rattle.winmd_sets.specs.Fits as rows
use Rattle.wr_base.proofs.TreeLaws.{text_of-tree_of}
use Rattle.wr_base.specs.Places.{part_count}
use Rattle.wr_base.specs.Trees.{UseTree, plain, value, reference, instance, within, among, text_of_tree, tree_of, param_tree, signature_tree, field_tree, member_tree, decl_tree}
use Rattle.wr_base.specs.Uses.{text_of}
use Rattle.wr_base.specs.declared.type_use.TypeUse.{TypeUse}
use Rattle.wr_base.specs.declared.declaration.Case.{Case}
use Rattle.wr_base.specs.declared.declaration.Field.{Field}
use Rattle.wr_base.specs.declared.declaration.Param.{Param}
use Rattle.wr_base.specs.declared.declaration.Signature.{Signature}
use Rattle.wr_base.specs.declared.declaration.Member.{Member}
use Rattle.wr_base.specs.declared.declaration.Member.TheVariants.{Method, Property, Event}
use Rattle.wr_base.specs.declared.declaration.Declaration.{Declaration}
use Rattle.wr_base.specs.declared.declaration.Declaration.TheVariants.{Enum, Struct, Delegate, Interface, Class}
use Rattle.wr_base.specs.declared.places.DeclPlaces.{DeclPlaces}
use Rattle.wr_rules.specs.Accepted.{IsName, IsAbiName, IsUse, abi_of, IsProper}
use Rattle.wr_rules.specs.Kinds.{kind_used}
use Rattle.wr_rules.specs.MemberRules.{fits, is_flags, with_spot, signatures_at}
use Rattle.wr_rules.specs.Members.{Standing, standing, members_at, cases_at, fields_at, member_name, signature_in}
use Rattle.wr_rules.specs.Sites.{Spot, Site, spot_of, part_spot}
use Rattle.wr_rules.specs.UseRules.{wrong_kind, is_by_name, is_event, is_listed, is_delegate, is_interface, has_kind}
use Rattle.wr_rules.specs.Uses.{Role, field, passed, event, listed, by_name, Used, used_at, name_at, optional, signature_uses, uses_by, member_uses, uses_at}
use Rattle.writable_sets.specs.Stated.{HasWidths, HasOrder, NotGuid, owner_of}
use Rattle.writable_sets.proofs.Facts.{RuleFacts}
use Rattle.writable_sets.proofs.UseFits.{OwnName, split_all, and_parts, use_fits, cell_fits, interface_apart, delegate_apart}

-- ---- lists

pub un_map : {X Y : Type 0} (P : Y → Type 0) (f : X → Y) (xs : List X) → All P (map f xs) → All (λ x. P (f x)) xs
un_map P f [] h = All-nil (λ x. P (f x))
un_map P f (x ∷ xs) h = All-cons (λ y. P (f y)) x xs (All-head P (f x) (map f xs) h) (un_map P f xs (All-tail P (f x) (map f xs) h))

flat_split : {X Y : Type 0} (P : Y → Type 0) (f : X → List Y) (xs : List X) → All P (flat_map f xs) → All (λ x. All P (f x)) xs
flat_split P f [] h = All-nil (λ x. All P (f x))
flat_split P f (x ∷ xs) h = let s = split_all P (f x) (flat_map f xs) h in All-cons (λ y. All P (f y)) x xs s.0 (flat_split P f xs s.1)

pub by_rec : {X Y : Type 0} (P : Y → Type 0) (f : X → Y) (xs : List X) → All (λ x. P (f x)) xs → AllByRecursion P (map f xs)
by_rec P f [] h = tt
by_rec P f (x ∷ xs) h = (All-head (λ y. P (f y)) x xs h, by_rec P f xs (All-tail (λ y. P (f y)) x xs h))

same_rec : {X : Type 0} (P : X → Type 0) (xs : List X) → All P xs → AllByRecursion P xs
same_rec P [] h = tt
same_rec P (x ∷ xs) h = (All-head P x xs h, same_rec P xs (All-tail P x xs h))

-- what holds of all parts where they stand holds of all parts, where each has a place
stood : {X : Type 0} (Q : X → Type 0) (s : Site) (name : X → List ℕ) (xs : List X) (ps : List Place) → length xs ≤ length ps → All (λ (x : Standing X). Q x.part) (standing s name xs ps) → All Q xs
stood Q s name [] ps l h = All-nil Q
stood Q s name (x ∷ xs) [] l h = absurd (omega (arith, l))
stood {X} Q s name (x ∷ xs) (p ∷ ps) l h =
    let one : Standing X = record { part = x; spot = part_spot s p (name x) } in
    All-cons Q x xs (All-head (λ (x : Standing X). Q x.part) one (standing s name xs ps) h) (stood Q s name xs ps (omega (arith, l)) (All-tail (λ (x : Standing X). Q x.part) one (standing s name xs ps) h))

-- ---- uses

pub not_false : (b : Bool) → not b ≡ false → b ≡ true
not_false true h = refl
not_false false h = absurd (true≢false h)

pub not_more : (m n : ℕ) → nat_lt m n ≡ false → n ≤ m
not_more m n h = grind (arith, h)

own_head : (P : UseTree → Type 0) (u : UseTree) → All P (within u) → P u
own_head P (plain base) h = All-head P (plain base) [] h
own_head P (value name) h = All-head P (value name) [] h
own_head P (reference name) h = All-head P (reference name) [] h
own_head P (instance name us) h = All-head P (instance name us) (among us) h

abbrev FitsAs : Role → UseTree → Type 0
FitsAs field u = UseFits 16 u
FitsAs passed u = UseFits 16 u
FitsAs event u = CellFits u
FitsAs listed u = CellFits u
FitsAs by_name u = UseFits 16 u

abbrev FitsUsed : Used → Type 0
FitsUsed u = FitsAs u.role u.use_

role_fits : (types : List Declaration) (own : All OwnName types) (role : Role) (u : UseTree) → UseFits 16 u → (not (is_by_name role) && wrong_kind types u) ≡ false → (is_event role && not (has_kind is_delegate (kind_used types u))) ≡ false
    → (is_listed role && not (has_kind is_interface (kind_used types u))) ≡ false → FitsAs role u
role_fits types own field u f k e l = f
role_fits types own passed u f k e l = f
role_fits types own event u f k e l = cell_fits types own is_delegate delegate_apart u (not_false (has_kind is_delegate (kind_used types u)) e) k f
role_fits types own listed u f k e l = cell_fits types own is_interface interface_apart u (not_false (has_kind is_interface (kind_used types u)) l) k f
role_fits types own by_name u f k e l = f

pub used_fit : (types : List Declaration) (s : Site) → All OwnName types → RuleFacts types s → All (λ (u : Used). IsUse u.use_) (uses_at s) → All (λ (u : Used). All NotGuid (within u.use_)) (uses_at s) → All FitsUsed (uses_at s)
used_fit types s own r p g k d l =
    let u : Used = get_or (uses_at s) k d in
    let whole : UseFits 16 u.use_ = use_fits types own 16 u.use_ (p k d l).shallow (p k d l).applied (λ i v m. (r.resolved k d l i v m, g k d l i v m)) in
    role_fits types own u.role u.use_ whole (own_head (λ v. (not (is_by_name u.role) && wrong_kind types v) ≡ false) u.use_ (r.kinds k d l)) (r.events k d l) (r.lists k d l)

-- ---- names and values

part_as : (name : List ℕ) → IsName name → IsPart 255 name
part_as name h = record { identifier = h.identifier; short = h.short }

in_order : (a b : ℤ) → int_le a b ≡ true → a ≤ℤ b
in_order a b e = le_z_yes (subst T (sym e) tt)

value_fits : (flags : Bool) (v : ℤ) → fits flags v ≡ true → ValueFits flags v
value_fits false v h =
    let s = and_parts (int_le (negsuc (2 ^ 31 - 1)) v) (int_le v (pos (2 ^ 31 - 1))) h in
    record { low = in_order (negsuc (2 ^ 31 - 1)) v s.0; high = in_order v (pos (2 ^ 31 - 1)) s.1 }
value_fits true (pos n) h = grind (arith, h)
value_fits true (negsuc n) h = absurd (true≢false (sym h))

-- ---- signatures

pub record SigUses (s : Signature) : Type 0 where
  pub result : ResultFits (option_map tree_of s.result)
  pub params : All (λ (p : Param). UseFits 16 (tree_of p.ty)) s.params

optional_result : (spot : Spot) (o : Option TypeUse) → All FitsUsed (optional passed spot o) → ResultFits (option_map tree_of o)
optional_result spot None h = tt
optional_result spot (Some u) h = All-head FitsUsed (used_at passed spot u) [] h

signature_uses_fit : (spot : Spot) (s : Signature) → All FitsUsed (signature_uses spot s) → SigUses s
signature_uses_fit spot s h =
    let parts = split_all FitsUsed (map (λ (p : Param). used_at passed spot p.ty) s.params) (optional passed spot s.result) h in
    record { result = optional_result spot s.result parts.1; params = un_map FitsUsed (λ (p : Param). used_at passed spot p.ty) s.params parts.0 }

-- names of parameters, of which there are few
pub record SigNames (s : Signature) : Type 0 where
  pub named : All (λ (p : Param). IsName p.name) s.params
  pub few : length s.params ≤ 64

signature_fits : (s : Signature) → SigUses s → SigNames s → SignatureFits (signature_tree s)
signature_fits s u n = record {
  result = u.result;
  params = by_rec ParamFits param_tree s.params (λ k d l. record { named = part_as (get_or s.params k d).name (n.named k d l); kind = u.params k d l });
  few = omega (arith, n.few, length-map s.params param_tree);
}

-- ---- members

abbrev MemberUses : Member → Type 0
MemberUses (Method name abi sig) = SigUses sig
MemberUses (Property name ty put) = UseFits 16 (tree_of ty)
MemberUses (Event name ty) = CellFits (tree_of ty)

abbrev MemberNames : Member → Type 0
MemberNames (Method name abi sig) = SigNames sig
MemberNames (Property name ty put) = ⊤
MemberNames (Event name ty) = ⊤

member_used : (spot : Spot) (m : Member) → All FitsUsed (uses_by spot m) → MemberUses m
member_used spot (Method name abi sig) h = signature_uses_fit spot sig h
member_used spot (Property name ty put) h = All-head FitsUsed (used_at passed spot ty) [] h
member_used spot (Event name ty) h = All-head FitsUsed (used_at event spot ty) [] h

member_fits : (m : Member) → IsName (member_name m) → IsAbiName (abi_of m) → MemberUses m → MemberNames m → MemberFits (member_tree m)
member_fits (Method name abi sig) n a u g = record { named = part_as name n; abi_named = record { identifier = a.identifier; short = a.short }; signed = signature_fits sig u g }
member_fits (Property name ty put) n a u g = (part_as name n, u)
member_fits (Event name ty) n a u g = (part_as name n, u)

abbrev signed_at : Standing Member → Option (Standing Signature)
signed_at m = with_spot m.spot (signature_in m.part)

abbrev SignedFew : Standing Signature → Type 0
SignedFew g = SigNames g.part

signed : (spot : Spot) (m : Member) (ms : List (Standing Member)) → All SignedFew (filter_map signed_at (record { part = m; spot = spot } ∷ ms)) → MemberNames m × All SignedFew (filter_map signed_at ms)
signed spot (Method name abi sig) ms h =
    (All-head SignedFew (record { part = sig; spot = spot }) (filter_map signed_at ms) h, All-tail SignedFew (record { part = sig; spot = spot }) (filter_map signed_at ms) h)
signed spot (Property name ty put) ms h = (tt, h)
signed spot (Event name ty) ms h = (tt, h)

all_signed : (ms : List (Standing Member)) → All SignedFew (filter_map signed_at ms) → All (λ (m : Standing Member). MemberNames m.part) ms
all_signed [] h = All-nil (λ (m : Standing Member). MemberNames m.part)
all_signed (m ∷ ms) h = let s = signed m.spot m.part ms h in All-cons (λ (m : Standing Member). MemberNames m.part) m ms s.0 (all_signed ms s.1)

-- ---- lists in order

pub rising_trees : (us : List TypeUse) → Rising text_of us → Rising text_of_tree (map tree_of us)
rising_trees [] h = tt
rising_trees (u ∷ []) h = tt
rising_trees (u ∷ v ∷ us) h =
    (ap (λ t. slice_cmp nat_cmp t (text_of_tree (tree_of v))) (text_of-tree_of u) ∙ ap (slice_cmp nat_cmp (text_of u)) (text_of-tree_of v) ∙ h.0, rising_trees (v ∷ us) h.1)

-- ---- declarations

-- a class's default stands in its list once
abbrev pub HasOne : Declaration → Type 0
HasOne (Enum name version flags cases) = ⊤
HasOne (Struct name version fields) = ⊤
HasOne (Delegate name version id invoke) = ⊤
HasOne (Interface name version id owner requires_ members) = ⊤
HasOne (Class name version fixed default has direct factories statics) = filter (is_default (option_map tree_of default)) (map tree_of has) ≡ listed_default (option_map tree_of default)

-- what is known of a declaration where it stands
pub record Known (d : Declaration) (p : DeclPlaces) : Type 0 where
  pub own : OwnName d
  pub widths : HasWidths d
  pub order : HasOrder d
  pub owner : OwnerFits (owner_of d)
  pub places : part_count d ≤ length p.parts
  pub proper : IsProper (record { decl = d; places = p })
  pub uses : All FitsUsed (uses_at (record { decl = d; places = p }))
  pub range : All (λ (c : Standing Case). not (fits (is_flags d) c.part.value) ≡ false) (cases_at (record { decl = d; places = p }))
  pub few : nat_lt 4000 (part_count d) ≡ false
  pub params : All SignedFew (signatures_at (record { decl = d; places = p }))
  pub one : HasOne d

pub decl_fits : (d : Declaration) (p : DeclPlaces) → Known d p → DeclFits (decl_tree d)
decl_fits (Enum name version flags cases) p k =
    let site : Site = record { decl = Enum name version flags cases; places = p } in
    let range : All (λ (c : Case). not (fits flags c.value) ≡ false) cases = stood (λ (c : Case). not (fits flags c.value) ≡ false) site (λ c. c.name) cases p.parts k.places k.range in
    record {
      named = k.own;
      numbered = k.widths;
      few = not_more 4000 (length cases) k.few;
      cases = same_rec (CaseFits flags) cases (λ i d l. record { named = part_as (get_or cases i d).name (k.proper.cases i d l); fits = value_fits flags (get_or cases i d).value (not_false (fits flags (get_or cases i d).value) (range i d l)) });
    }
decl_fits (Struct name version fields) p k =
    let site : Site = record { decl = Struct name version fields; places = p } in
    let kinds : All (λ (f : Field). UseFits 16 (tree_of f.ty)) fields =
    stood (λ (f : Field). UseFits 16 (tree_of f.ty)) site (λ f. f.name) fields p.parts k.places (un_map FitsUsed (λ (f : Standing Field). used_at field f.spot f.part.ty) (fields_at site) k.uses) in
    record {
      named = k.own;
      numbered = k.widths;
      few = omega (arith, not_more 4000 (length fields) k.few, length-map fields field_tree);
      fields = by_rec FieldFits field_tree fields (λ i d l. record { named = part_as (get_or fields i d).name (k.proper.fields i d l); kind = kinds i d l });
    }
decl_fits (Delegate name version id invoke) p k =
    let site : Site = record { decl = Delegate name version id invoke; places = p } in
    record {
      named = k.own;
      numbered = k.widths.0;
      id_fits = k.widths.1;
      signed = signature_fits invoke (signature_uses_fit (spot_of site) invoke k.uses) (All-head SignedFew (record { part = invoke; spot = spot_of site }) [] k.params);
    }
decl_fits (Interface name version id owner requires_ members) p k =
    let site : Site = record { decl = Interface name version id owner requires_ members; places = p } in
    let parts = split_all FitsUsed (map (used_at listed (spot_of site)) requires_) (flat_map member_uses (members_at site)) k.uses in
    let each = flat_split FitsUsed member_uses (members_at site) parts.1 in
    let uses : All MemberUses members = stood MemberUses site member_name members p.parts k.places (λ i d l. member_used (get_or (members_at site) i d).spot (get_or (members_at site) i d).part (each i d l)) in
    let names : All MemberNames members = stood MemberNames site member_name members p.parts k.places (all_signed (members_at site) k.params) in
    record {
      named = k.own;
      numbered = k.widths.0;
      id_fits = k.widths.1;
      owned_by = k.owner;
      few = omega (arith, not_more 4000 (length members) k.few, length-map members member_tree);
      uses = by_rec CellFits tree_of requires_ (un_map FitsUsed (used_at listed (spot_of site)) requires_ parts.0);
      rising = rising_trees requires_ k.order;
      members = by_rec MemberFits member_tree members (λ i d l. member_fits (get_or members i d) (k.proper.members i d l) (k.proper.abis i d l) (uses i d l) (names i d l));
    }
decl_fits (Class name version fixed default has direct factories statics) p k =
    let spot : Spot = spot_of (record { decl = Class name version fixed default has direct factories statics; places = p }) in
    let last = split_all FitsUsed (optional listed spot default ++ map (used_at listed spot) has ++ map (name_at spot) factories) (map (name_at spot) statics) k.uses in
    let next = split_all FitsUsed (optional listed spot default ++ map (used_at listed spot) has) (map (name_at spot) factories) last.0 in
    let first = split_all FitsUsed (optional listed spot default) (map (used_at listed spot) has) next.0 in
    record {
      named = k.own;
      numbered = k.widths;
      uses = by_rec CellFits tree_of has (un_map FitsUsed (used_at listed spot) has first.1);
      rising = rising_trees has k.order.0;
      one = k.one;
      factories = same_rec rows.IsName factories (un_map FitsUsed (name_at spot) factories next.1);
      factories_rising = k.order.1;
      statics = same_rec rows.IsName statics (un_map FitsUsed (name_at spot) statics last.1);
      statics_rising = k.order.2;
    }
