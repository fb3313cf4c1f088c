-- Sets that images state: their lists are in order, and what rules ask of the whole.
use Rattle.std.proofs.Common.{◌≡◌, ℕ, ◌<◌, ◌≤◌, ◌^◌, true, List, [], ◌∷◌, Option, Some, None, Contains, length, get_or, inr, refl, sym, ap, subst, ◌∙◌, arith}
use Rattle.std.proofs.Common.{map as map_list}
use Rattle.std.specs.List.{All}
use Rattle.std.specs.declared.cmp.Ordering.TheVariants.{Less}
use Rattle.std.specs.Ordering.{nat_cmp}
use Rattle.std.specs.Cmp.Lexicographic.{slice_cmp, nat_list_cmp_total}
use Rattle.std.specs.FinMap as map
use Rattle.std.specs.FinMap.Entries.{by_order}
use Rattle.std.proofs.lemmas.List.{length-map}
use Rattle.std.proofs.lemmas.List.Elements.{All-nil, All-cons, All-head, All-tail, All-weaker, All-contains, All-contains_itself}
use Rattle.winmd_lines.specs.Orders.{Rising}
use Rattle.winmd_sets.specs.Fits.{OwnerFits}
use Rattle.winmd_sets.specs.Types.{all_parts_of}
use Rattle.wr_base.proofs.TreeLaws.{text_of-tree_of}
use Rattle.wr_base.specs.Declarations.{name_of}
use Rattle.wr_base.specs.Normal.{normal, names_in_order}
use Rattle.wr_base.specs.Paths.{is_path}
use Rattle.wr_base.specs.Places.{part_count, total, plain_from}
use Rattle.wr_base.specs.Sets.{keyed, set_by}
use Rattle.wr_base.specs.Trees as trees
use Rattle.wr_base.specs.Trees.{DeclTree, within, tree_of, text_of_tree, decl_tree, field_tree, member_tree}
use Rattle.wr_base.specs.Uses.{text_of}
use Rattle.wr_base.specs.declared.type_use.TypeUse.{TypeUse}
use Rattle.wr_base.specs.declared.declaration.Declaration.{Declaration}
use Rattle.wr_base.specs.declared.declaration.Declaration.TheVariants.{Enum, Struct, Delegate, Interface, Class}
use Rattle.wr_base.specs.declared.places.DeclPlaces.{DeclPlaces}
use Rattle.wr_rules.specs.Accepted.{IsProper, Proper}
use Rattle.wr_rules.specs.Sites.{Site, sites_of}
use Rattle.wr_rules.specs.Uses.{Used, uses_at}
use Rattle.writable_sets.specs.Stated.{HasWidths, HasOrder, NotGuid, NoGuid, owner_of, IsOwned, IsStated}
use Rattle.md_merge.proofs.UnionLaws as unions
use Rattle.md_merge.specs.Merged.{IsSet}
use Rattle.md_merge.specs.Unions.{all_of, IsNormal, IsUnion}
use Rattle.read_sets.proofs.Facts.{Imaged, all_from, proper_so, uses_so}
use Rattle.read_sets.proofs.OrderReads.{sum}
use Rattle.read_sets.proofs.Read.{IsRead}
use Rattle.read_sets.proofs.TypeReads.{weight, stated_read}
use Rattle.read_sets.specs.Images.{IsImageSet}

-- ---- lists in order

rising_uses : (us : List TypeUse) → Rising text_of_tree (map_list tree_of us) → Rising text_of us
rising_uses [] h = tt
rising_uses (u ∷ []) h = tt
rising_uses (u ∷ v ∷ us) h =
    (subst (λ a. slice_cmp nat_cmp a (text_of v) ≡ Less) (text_of-tree_of u) (subst (λ b. slice_cmp nat_cmp (text_of_tree (tree_of u)) b ≡ Less) (text_of-tree_of v) h.0), rising_uses (v ∷ us) h.1)

order_so : (d : Declaration) → Imaged d → HasOrder d
order_so (Enum name version flags cases) h = tt
order_so (Struct name version fields) h = tt
order_so (Delegate name version id invoke) h = tt
order_so (Interface name version id owner requires_ members) h = rising_uses requires_ h.parts.1.rising
order_so (Class name version fixed default has direct factories statics) h = (rising_uses has h.parts.1.rising, h.parts.2.rising, h.parts.3.rising)

nothing : {A : Type 0} (es : List A) → length es ≡ 0 → es ≡ []
nothing [] e = refl
nothing (x ∷ es) e = absurd (omega arith)

module _ {X : Type 0} (key : X → List ℕ) where
  rising_tail : (x : X) (xs : List X) → Rising key (x ∷ xs) → Rising key xs
  rising_tail x [] h = tt
  rising_tail x (y ∷ ys) h = h.1

  in_front : (x : X) (xs : List X) → Rising key (x ∷ xs) → map.put (slice_cmp nat_cmp) (key x) x (keyed key xs) ≡ keyed key (x ∷ xs)
  in_front x [] h = refl
  in_front x (y ∷ ys) h = ap (λ o. by_order o ((key x, x) ∷ keyed key (y ∷ ys)) ((key y, x) ∷ keyed key ys) ((key y, y) ∷ map.put (slice_cmp nat_cmp) (key x) x (keyed key ys))) h.0

  entries_so : (xs : List X) → Rising key xs → map.entries (map.from_entries {R = slice_cmp nat_cmp} (keyed key xs)) ≡ keyed key xs
  entries_so [] h = nothing _ (sym (map.len-entries map.empty) ∙ map.len-empty (slice_cmp nat_cmp) X)
  entries_so (x ∷ xs) h = map.entries-insert nat_list_cmp_total _ (key x) x ∙ ap (map.put (slice_cmp nat_cmp) (key x) x) (entries_so xs (rising_tail x xs h)) ∙ in_front x xs h

  values_so : (xs : List X) → map_list (λ e. e.1) (keyed key xs) ≡ xs
  values_so [] = refl
  values_so (x ∷ xs) = ap (λ ys. x ∷ ys) (values_so xs)

  -- a list in order stays as it is
  stays : (xs : List X) → Rising key xs → set_by key xs ≡ xs
  stays xs h = ap (map_list (λ e. e.1)) (entries_so xs h) ∙ values_so xs

normal_so : (d : Declaration) → HasOrder d → normal d ≡ d
normal_so (Enum name version flags cases) h = refl
normal_so (Struct name version fields) h = refl
normal_so (Delegate name version id invoke) h = refl
normal_so (Interface name version id owner requires_ members) h = ap (λ us. Interface name version id owner us members) (stays text_of requires_ h)
normal_so (Class name version fixed default has direct factories statics) h =
    ap (λ us. Class name version fixed default us direct (names_in_order factories) (names_in_order statics)) (stays text_of has h.0)
    ∙ ap (λ fs. Class name version fixed default has direct fs (names_in_order statics)) (stays (λ name. name) factories h.1)
    ∙ ap (λ ss. Class name version fixed default has direct factories ss) (stays (λ name. name) statics h.2)

-- ---- what rows state

name_so : (d : Declaration) → Imaged d → is_path (name_of d) ≡ true
name_so (Enum name version flags cases) h = h.named.path
name_so (Struct name version fields) h = h.named.path
name_so (Delegate name version id invoke) h = h.named.path
name_so (Interface name version id owner requires_ members) h = h.named.path
name_so (Class name version fixed default has direct factories statics) h = h.named.path

owned_so : (types : List Declaration) (o : Option (List ℕ)) → OwnerFits o → IsOwned types o
owned_so types None h = tt
owned_so types (Some owner) h = inr h

owner_so : (types : List Declaration) (d : Declaration) → Imaged d → IsOwned types (owner_of d)
owner_so types (Enum name version flags cases) h = tt
owner_so types (Struct name version fields) h = tt
owner_so types (Delegate name version id invoke) h = tt
owner_so types (Interface name version id owner requires_ members) h = owned_so types owner h.parts.0
owner_so types (Class name version fixed default has direct factories statics) h = tt

-- ---- a set of such declarations

all_stated : (types within : List Declaration) → All Imaged types → All HasWidths types → All (IsStated within) types
all_stated types within h w k d l = record { path = name_so (get_or types k d) (h k d l); widths = w k d l; order = order_so (get_or types k d) (h k d l); owner = owner_so within (get_or types k d) (h k d l) }

all_normal : (types : List Declaration) → All Imaged types → All IsNormal types
all_normal types h k d l = normal_so (get_or types k d) (order_so (get_or types k d) (h k d l))

all_sites : (P : Site → Type 0) → ((d : Declaration) (p : DeclPlaces) → Imaged d → P (record { decl = d; places = p })) → (types : List Declaration) (places : List DeclPlaces) → All Imaged types → All P (sites_of types places)
all_sites P f [] ps h = All-nil P
all_sites P f (d ∷ ds) [] h = All-nil P
all_sites P f (d ∷ ds) (p ∷ ps) h = All-cons P (record { decl = d; places = p }) (sites_of ds ps) (f d p (All-head Imaged d ds h)) (all_sites P f ds ps (All-tail Imaged d ds h))

all_proper : (types : List Declaration) → All Imaged types → Proper types
all_proper types h = all_sites IsProper proper_so types (plain_from 0 types) h

abbrev Unguided : Site → Type 0
Unguided s = All (λ (u : Used). All NotGuid (within u.use_)) (uses_at s)

all_unguided : (types : List Declaration) → All Imaged types → NoGuid types
all_unguided types h = all_sites Unguided (λ d p i k e l. (uses_so d p i k e l).unguided) types (plain_from 0 types) h

-- ---- sets that images state

imaged : (types : List Declaration) → IsImageSet types → All Imaged types
imaged types (bytes, e) = all_from IsRead decl_tree types (stated_read bytes (map_list decl_tree types) e).each

pub each_set : (sets : List (List Declaration)) → All IsImageSet sets → All IsSet sets
each_set sets h k d l = let i = imaged (get_or sets k d) (h k d l) in record { proper = all_proper (get_or sets k d) i; normal = all_normal (get_or sets k d) i }

pub set_stated : (types : List Declaration) → IsImageSet types → All HasWidths types → All (IsStated types) types
set_stated types h w = all_stated types types (imaged types h) w

pub set_unguided : (types : List Declaration) → IsImageSet types → NoGuid types
set_unguided types h = all_unguided types (imaged types h)

united : (sets : List (List Declaration)) (types : List Declaration) → All IsImageSet sets → IsUnion sets types → All Imaged types
united sets types h u =
    All-weaker (Contains types) Imaged (λ d c. All-contains Imaged (all_of sets) d (unions.all_sets Imaged sets (All-weaker IsImageSet (All Imaged) imaged sets h)) (u.within d c)) types (All-contains_itself types)

pub union_stated : (sets : List (List Declaration)) (types : List Declaration) → All IsImageSet sets → IsUnion sets types → All HasWidths types → All (IsStated types) types
union_stated sets types h u w = all_stated types types (united sets types h u) w

pub union_unguided : (sets : List (List Declaration)) (types : List Declaration) → All IsImageSet sets → IsUnion sets types → NoGuid types
union_unguided sets types h u = all_unguided types (united sets types h u)

-- ---- how many declarations and parts

parts_so : (d : Declaration) → part_count d ≤ all_parts_of (decl_tree d)
parts_so (Enum name version flags cases) = omega arith
parts_so (Struct name version fields) = omega (arith, length-map fields field_tree)
parts_so (Delegate name version id invoke) = omega arith
parts_so (Interface name version id owner requires_ members) = omega (arith, length-map members member_tree)
parts_so (Class name version fixed default has direct factories statics) = omega arith

total_so : (types : List Declaration) → total types ≤ sum trees.name_of weight (map_list decl_tree types)
total_so [] = omega arith
total_so (d ∷ ds) = omega (arith, parts_so d, total_so ds)

set_small : (types : List Declaration) → IsImageSet types → total types ≤ 520000
set_small types (bytes, e) = let s = (stated_read bytes (map_list decl_tree types) e).small in omega (arith, s, total_so types)

pub few_sets : (sets : List (List Declaration)) → All IsImageSet sets → length sets ≤ 256 → total (all_of sets) < 2 ^ 32
few_sets sets h l = unions.few_together sets l (All-weaker IsImageSet (λ set. total set ≤ 520000) set_small sets h)
