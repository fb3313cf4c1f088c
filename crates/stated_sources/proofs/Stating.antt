-- The full types of items have paths as names, lists in order, and declared owners.
use Rattle.std.proofs.Common.{◌≡◌, ℕ, zero, suc, ◌+◌, Bool, true, false, IsTrue, List, [], ◌∷◌, ◌++◌, Option, Some, None, map, length, codes, get_or, inl, refl, sym, ap, subst, ◌∙◌, arith}
use Rattle.std.specs.Prelude.{⊤}
use Rattle.std.specs.List.{All, AllZip, AllAdjacentBelow, Contains, flat_map, list_all}
use Rattle.std.specs.List.Sorted.{IsPermutation}
use Rattle.std.specs.Ordering.{nat_cmp}
use Rattle.std.specs.Cmp.Lexicographic.{slice_cmp}
use Rattle.std.specs.declared.cmp.Ordering.TheVariants.{Less}
use Rattle.std.proofs.lemmas.List.Sorted.{All-permutation, Contains-permutation}
use Rattle.std.proofs.lemmas.List.Elements.{All-nil, All-cons, All-head, All-tail, All-append, All-map, All-weaker, Contains-append_left, Contains-append_right, Contains-get_or}
use Rattle.made_interfaces.proofs.PathLaws.{made_is_path}
use Rattle.winmd_lines.specs.Orders.{Rising}
use Rattle.wr_base.proofs.PartLaws.{joined_parts, path_dot}
use Rattle.wr_base.proofs.SetLemmas.{rises-set_by}
use Rattle.wr_base.specs.Declarations.{name_of}
use Rattle.wr_base.specs.Normal.{normal, names_in_order}
use Rattle.wr_base.specs.Paths.{is_path, is_rest}
use Rattle.wr_base.specs.Sets.{set_by}
use Rattle.wr_base.specs.Uses.{text_of}
use Rattle.wr_base.specs.declared.declaration.Declaration.{Declaration}
use Rattle.wr_base.specs.declared.declaration.Declaration.TheVariants.{Enum, Struct, Delegate, Interface, Class}
use Rattle.wr_base.specs.declared.places.DeclPlaces.{DeclPlaces}
use Rattle.wr_base.specs.declared.type_use.TypeUse.{TypeUse}
use Rattle.wr_rules.specs.Sites.{Site, sites_of, site_name}
use Rattle.placed_items.specs.Items.{written_name}
use Rattle.placed_items.specs.Named.{ArePathed}
use Rattle.placed_items.specs.declared.placed.PlacedItem.{PlacedItem}
use Rattle.placed_items.specs.declared.placed.Written.{Written}
use Rattle.placed_items.specs.declared.placed.Written.TheVariants as written
use Rattle.closed_lists.specs.Closures.{IsClosing, with_list}
use Rattle.made_interfaces.specs.Made.{where_, makes_default, makes_statics, makes_factory, made_name, default_site, statics_site, factory_site, made_sites, class_site, with_id, sites_by, item_sites, raw}
use Rattle.class_synthesis.specs.Full.{in_order, IsFull}
use Rattle.writable_sets.specs.Stated.{HasWidths, HasOrder, owner_of, IsOwned, IsStated}

-- ---- lists

flat_within : {X Y : Type 0} (P : Y → Type 0) (f : X → List Y) (xs : List X) → All (λ x. All P (f x)) xs → All P (flat_map f xs)
flat_within P f [] h = All-nil P
flat_within P f (x ∷ xs) h = All-append P (f x) (flat_map f xs) (All-head (λ y. All P (f y)) x xs h) (flat_within P f xs (All-tail (λ y. All P (f y)) x xs h))

where_within : {X : Type 0} (P : X → Type 0) (b : Bool) (x : X) → P x → All P (where_ b x)
where_within P true x h = All-cons P x [] h (All-nil P)
where_within P false x h = All-nil P

rising : {X : Type 0} (key : X → List ℕ) (xs : List X) → AllAdjacentBelow (λ a b. slice_cmp nat_cmp (key a) (key b) ≡ Less) xs (length xs) → Rising key xs
rising key [] h = tt
rising key (x ∷ []) h = tt
rising key (x ∷ y ∷ ys) h = (
  h 0 x (omega arith),
  rising key (y ∷ ys) (λ k d l.
      let next : suc k + 1 ≡ suc (k + 1) = omega arith in
      subst (λ z. slice_cmp nat_cmp (key (get_or (y ∷ ys) k d)) (key z) ≡ Less) (ap (λ m. get_or (x ∷ y ∷ ys) m d) next) (h (suc k) d (omega (arith, l)))),
)

-- ---- names

abbrev IsPathSite : Site → Type 0
IsPathSite s = is_path (site_name s) ≡ true

id_name : (id : Option ℕ) (d : Declaration) → name_of (with_id id d) ≡ name_of d
id_name id (Enum name version flags cases) = refl
id_name id (Struct name version fields) = refl
id_name id (Delegate name version own invoke) = refl
id_name id (Interface name version own owner requires_ members) = refl
id_name id (Class name version fixed default has direct factories statics) = refl

made_path : (name word : List ℕ) → is_path name ≡ true → list_all is_rest word ≡ true → is_path (made_name name word) ≡ true
made_path name word h w = made_is_path name word h (joined_parts 46 name (path_dot name h)) w

kind_path : (i : PlacedItem) (w : Written) → IsTrue (is_path (written_name w)) → All IsPathSite (sites_by i w)
kind_path i (written.Done d) h = All-cons IsPathSite (record { decl = with_id i.id d; places = i.places }) [] (ap is_path (id_name i.id d) ∙ h) (All-nil IsPathSite)
kind_path i (written.Class c) h =
    All-cons IsPathSite (class_site c i.places) (made_sites c i.places) h
    (All-append IsPathSite (where_ (makes_default c) (default_site c i.places) ++ where_ (makes_statics c) (statics_site c i.places)) (where_ (makes_factory c) (factory_site c i.places))
    (All-append IsPathSite (where_ (makes_default c) (default_site c i.places)) (where_ (makes_statics c) (statics_site c i.places))
    (where_within IsPathSite (makes_default c) (default_site c i.places) (made_path c.name [] h refl))
    (where_within IsPathSite (makes_statics c) (statics_site c i.places) (made_path c.name (codes "Statics") h refl)))
    (where_within IsPathSite (makes_factory c) (factory_site c i.places) (made_path c.name (codes "Factory") h refl)))

raw_paths : (items : List PlacedItem) → ArePathed items → All IsPathSite (raw items)
raw_paths items h = flat_within IsPathSite item_sites items (λ k d l. kind_path (get_or items k d) (get_or items k d).item (h k d l).own)

-- ---- closed and in order

list_name : (whole : List TypeUse) (d : Declaration) → name_of (with_list whole d) ≡ name_of d
list_name whole (Enum name version flags cases) = refl
list_name whole (Struct name version fields) = refl
list_name whole (Delegate name version id invoke) = refl
list_name whole (Interface name version id owner requires_ members) = refl
list_name whole (Class name version fixed default has direct factories statics) = refl

list_owner : (whole : List TypeUse) (d : Declaration) → owner_of (with_list whole d) ≡ owner_of d
list_owner whole (Enum name version flags cases) = refl
list_owner whole (Struct name version fields) = refl
list_owner whole (Delegate name version id invoke) = refl
list_owner whole (Interface name version id owner requires_ members) = refl
list_owner whole (Class name version fixed default has direct factories statics) = refl

normal_name : (d : Declaration) → name_of (normal d) ≡ name_of d
normal_name (Enum name version flags cases) = refl
normal_name (Struct name version fields) = refl
normal_name (Delegate name version id invoke) = refl
normal_name (Interface name version id owner requires_ members) = refl
normal_name (Class name version fixed default has direct factories statics) = refl

normal_owner : (d : Declaration) → owner_of (normal d) ≡ owner_of d
normal_owner (Enum name version flags cases) = refl
normal_owner (Struct name version fields) = refl
normal_owner (Delegate name version id invoke) = refl
normal_owner (Interface name version id owner requires_ members) = refl
normal_owner (Class name version fixed default has direct factories statics) = refl

normal_order : (d : Declaration) → HasOrder (normal d)
normal_order (Enum name version flags cases) = tt
normal_order (Struct name version fields) = tt
normal_order (Delegate name version id invoke) = tt
normal_order (Interface name version id owner requires_ members) = rising text_of (set_by text_of requires_) (rises-set_by text_of requires_)
normal_order (Class name version fixed default has direct factories statics) =
    (rising text_of (set_by text_of has) (rises-set_by text_of has), rising (λ name. name) (names_in_order factories) (rises-set_by (λ name. name) factories), rising (λ name. name) (names_in_order statics) (rises-set_by (λ name. name) statics))

-- ---- owners

-- a declaration among these has this name
abbrev Named : List Site → List ℕ → Type 0
Named sites name = (s : Site) × Contains sites s × (site_name s ≡ name)

abbrev Owned : List Site → Option (List ℕ) → Type 0
Owned sites None = ⊤
Owned sites (Some owner) = Named sites owner

abbrev OwnedSite : List Site → Site → Type 0
OwnedSite sites s = Owned sites (owner_of s.decl)

more_left : (xs ys : List Site) (o : Option (List ℕ)) → Owned xs o → Owned (xs ++ ys) o
more_left xs ys None h = tt
more_left xs ys (Some owner) h = (h.0, Contains-append_left xs ys h.0 h.1, h.2)

more_right : (xs ys : List Site) (o : Option (List ℕ)) → Owned ys o → Owned (xs ++ ys) o
more_right xs ys None h = tt
more_right xs ys (Some owner) h = (h.0, Contains-append_right xs ys h.0 h.1, h.2)

id_owner : (id : Option ℕ) (d : Declaration) → owner_of (with_id id d) ≡ owner_of d
id_owner id (Enum name version flags cases) = refl
id_owner id (Struct name version fields) = refl
id_owner id (Delegate name version own invoke) = refl
id_owner id (Interface name version own owner requires_ members) = refl
id_owner id (Class name version fixed default has direct factories statics) = refl

-- a declaration that is written has no owner
abbrev pub HasNoOwner : Written → Type 0
HasNoOwner (written.Done d) = owner_of d ≡ None
HasNoOwner (written.Class c) = ⊤

kind_owned : (i : PlacedItem) (w : Written) → HasNoOwner w → All (OwnedSite (sites_by i w)) (sites_by i w)
kind_owned i (written.Done d) h =
    All-cons (OwnedSite (sites_by i (written.Done d))) (record { decl = with_id i.id d; places = i.places }) [] (subst (Owned (sites_by i (written.Done d))) (sym (id_owner i.id d ∙ h)) tt) (All-nil (OwnedSite (sites_by i (written.Done d))))
kind_owned i (written.Class c) h =
    All-cons O (class_site c i.places) (made_sites c i.places) tt
    (All-append O (where_ (makes_default c) (default_site c i.places) ++ where_ (makes_statics c) (statics_site c i.places)) (where_ (makes_factory c) (factory_site c i.places))
    (All-append O (where_ (makes_default c) (default_site c i.places)) (where_ (makes_statics c) (statics_site c i.places))
    (where_within O (makes_default c) (default_site c i.places) own)
    (where_within O (makes_statics c) (statics_site c i.places) own))
    (where_within O (makes_factory c) (factory_site c i.places) own))
  where
    O : Site → Type 0
    O = OwnedSite (class_site c i.places ∷ made_sites c i.places)

    own : Named (class_site c i.places ∷ made_sites c i.places) c.name
    own = (class_site c i.places, Contains-get_or (class_site c i.places ∷ made_sites c i.places) 0 (class_site c i.places) (omega arith), refl)

raw_owned : (items : List PlacedItem) → All (λ (i : PlacedItem). HasNoOwner i.item) items → All (OwnedSite (raw items)) (raw items)
raw_owned [] h = All-nil (OwnedSite [])
raw_owned (i ∷ is) h =
    All-append (OwnedSite (item_sites i ++ raw is)) (item_sites i) (raw is)
    (All-weaker (OwnedSite (item_sites i)) (OwnedSite (item_sites i ++ raw is)) (λ s g. more_left (item_sites i) (raw is) (owner_of s.decl) g) (item_sites i) (kind_owned i i.item (All-head (λ (i : PlacedItem). HasNoOwner i.item) i is h)))
    (All-weaker (OwnedSite (raw is)) (OwnedSite (item_sites i ++ raw is)) (λ s g. more_right (item_sites i) (raw is) (owner_of s.decl) g) (raw is) (raw_owned is (All-tail (λ (i : PlacedItem). HasNoOwner i.item) i is h)))

-- ---- sites that are changed one by one

-- as many sites, each of the name and the owner of the one at its place
record Alike (s t : Site) : Type 0 where
  name : site_name t ≡ site_name s
  owner : owner_of t.decl ≡ owner_of s.decl

closed_alike : (types : List Declaration) (sites closed : List Site) → AllZip (IsClosing types) sites closed → AllZip Alike sites closed
closed_alike types [] [] h = tt
closed_alike types [] (y ∷ ys) h = h
closed_alike types (x ∷ xs) [] h = h
closed_alike types (x ∷ xs) (y ∷ ys) h =
    (record { name = ap name_of h.0.decl.2 ∙ list_name h.0.decl.0 x.decl; owner = ap owner_of h.0.decl.2 ∙ list_owner h.0.decl.0 x.decl }, closed_alike types xs ys h.1)

ordered_alike : (sites : List Site) → AllZip Alike sites (map in_order sites)
ordered_alike [] = tt
ordered_alike (s ∷ ss) = (record { name = normal_name s.decl; owner = normal_owner s.decl }, ordered_alike ss)

alike_paths : (xs ys : List Site) → AllZip Alike xs ys → All IsPathSite xs → All IsPathSite ys
alike_paths [] [] h p = All-nil IsPathSite
alike_paths [] (y ∷ ys) h p = absurd h
alike_paths (x ∷ xs) [] h p = absurd h
alike_paths (x ∷ xs) (y ∷ ys) h p = All-cons IsPathSite y ys (ap is_path h.0.name ∙ All-head IsPathSite x xs p) (alike_paths xs ys h.1 (All-tail IsPathSite x xs p))

alike_named : (xs ys : List Site) (name : List ℕ) → AllZip Alike xs ys → Named xs name → Named ys name
alike_named [] [] name h n = n
alike_named [] (y ∷ ys) name h n = absurd h
alike_named (x ∷ xs) [] name h n = absurd h
alike_named (x ∷ xs) (y ∷ ys) name h (s, (zero, l, e), i) = (y, Contains-get_or (y ∷ ys) 0 y (omega arith), h.0.name ∙ ap site_name e ∙ i)
alike_named (x ∷ xs) (y ∷ ys) name h (s, (suc k, l, e), i) =
    let r = alike_named xs ys name h.1 (s, (k, omega (arith, l), e), i) in
    (r.0, Contains-append_right (y ∷ []) ys r.0 r.1, r.2)

alike_owner : (xs ys : List Site) (o : Option (List ℕ)) → AllZip Alike xs ys → Owned xs o → Owned ys o
alike_owner xs ys None h n = tt
alike_owner xs ys (Some owner) h n = alike_named xs ys owner h n

alike_each : (all_ xs ys : List Site) (to : List Site) → AllZip Alike xs ys → ((o : Option (List ℕ)) → Owned all_ o → Owned to o) → All (OwnedSite all_) xs → All (OwnedSite to) ys
alike_each all_ [] [] to h f o = All-nil (OwnedSite to)
alike_each all_ [] (y ∷ ys) to h f o = absurd h
alike_each all_ (x ∷ xs) [] to h f o = absurd h
alike_each all_ (x ∷ xs) (y ∷ ys) to h f o =
    All-cons (OwnedSite to) y ys (subst (Owned to) (sym h.0.owner) (f (owner_of x.decl) (All-head (OwnedSite all_) x xs o))) (alike_each all_ xs ys to h.1 f (All-tail (OwnedSite all_) x xs o))

moved_owner : (xs ys : List Site) (o : Option (List ℕ)) → IsPermutation xs ys → Owned xs o → Owned ys o
moved_owner xs ys None p h = tt
moved_owner xs ys (Some owner) p h = (h.0, Contains-permutation xs ys h.0 p h.1, h.2)

-- ---- the set

decls_all : (P : Declaration → Type 0) (types : List Declaration) (places : List DeclPlaces) → length places ≡ length types → All (λ (s : Site). P s.decl) (sites_of types places) → All P types
decls_all P [] ps n h = All-nil P
decls_all P (d ∷ ds) [] n h = absurd (omega (arith, n))
decls_all P (d ∷ ds) (p ∷ ps) n h =
    let s : Site = record { decl = d; places = p } in
    All-cons P d ds (All-head (λ (s : Site). P s.decl) s (sites_of ds ps) h) (decls_all P ds ps (omega (arith, n)) (All-tail (λ (s : Site). P s.decl) s (sites_of ds ps) h))

site_named : (types : List Declaration) (places : List DeclPlaces) (name : List ℕ) → Named (sites_of types places) name → Contains (map name_of types) name
site_named [] ps name (s, (k, l, e), i) = absurd (omega (arith, l))
site_named (d ∷ ds) [] name (s, (k, l, e), i) = absurd (omega (arith, l))
site_named (d ∷ ds) (p ∷ ps) name (s, (zero, l, e), i) = subst (Contains (name_of d ∷ map name_of ds)) (ap site_name e ∙ i) (Contains-get_or (name_of d ∷ map name_of ds) 0 (name_of d) (omega arith))
site_named (d ∷ ds) (p ∷ ps) name (s, (suc k, l, e), i) = Contains-append_right (name_of d ∷ []) (map name_of ds) name (site_named ds ps name (s, (k, omega (arith, l), e), i))

site_owned : (types : List Declaration) (places : List DeclPlaces) (o : Option (List ℕ)) → Owned (sites_of types places) o → IsOwned types o
site_owned types places None h = tt
site_owned types places (Some owner) h = inl (site_named types places owner h)

module _ (items : List PlacedItem) (types : List Declaration) (places : List DeclPlaces) (pathed : ArePathed items) (unowned : All (λ (i : PlacedItem). HasNoOwner i.item) items) (full : IsFull items types places) where
  ordered : List Site
  ordered = map in_order full.closed

  closes : AllZip Alike (raw items) full.closed
  closes = closed_alike (map (λ (s : Site). s.decl) (raw items)) (raw items) full.closed full.each

  all_paths : All (λ d. is_path (name_of d) ≡ true) types
  all_paths =
      decls_all (λ d. is_path (name_of d) ≡ true) types places full.size
      (All-permutation IsPathSite (map in_order full.closed) (sites_of types places) full.sites
      (alike_paths full.closed (map in_order full.closed) (ordered_alike full.closed) (alike_paths (raw items) full.closed closes (raw_paths items pathed))))

  all_order : All HasOrder types
  all_order =
      decls_all HasOrder types places full.size
      (All-permutation (λ (s : Site). HasOrder s.decl) (map in_order full.closed) (sites_of types places) full.sites
      (All-map (λ (s : Site). HasOrder s.decl) in_order full.closed (λ k d l. normal_order (get_or full.closed k d).decl)))

  all_owned : All (λ d. IsOwned types (owner_of d)) types
  all_owned =
      let first = alike_each (raw items) (raw items) full.closed full.closed closes (λ o h. alike_owner (raw items) full.closed o closes h) (raw_owned items unowned) in
      let second = alike_each full.closed full.closed (map in_order full.closed) (map in_order full.closed) (ordered_alike full.closed) (λ o h. alike_owner full.closed (map in_order full.closed) o (ordered_alike full.closed) h) first in
      decls_all (λ d. IsOwned types (owner_of d)) types places full.size
      (All-permutation (λ (s : Site). IsOwned types (owner_of s.decl)) (map in_order full.closed) (sites_of types places) full.sites
      (All-weaker (OwnedSite (map in_order full.closed)) (λ (s : Site). IsOwned types (owner_of s.decl))
      (λ s h. site_owned types places (owner_of s.decl) (moved_owner (map in_order full.closed) (sites_of types places) (owner_of s.decl) full.sites h)) (map in_order full.closed) second))

  pub all_stated : All HasWidths types → All (IsStated types) types
  all_stated widths k d l = record { path = all_paths k d l; widths = widths k d l; order = all_order k d l; owner = all_owned k d l }
