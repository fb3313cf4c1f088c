-- There is one union, none where declarations conflict, and it is proper where the sets are.
use Rattle.std.proofs.Common.{◌≡◌, ℕ, zero, suc, ◌+◌, List, [], ◌∷◌, Some, Result, Ok, Err, IfOk, IfErr, Contains, map, length, slice_get, refl, sym, ap, subst, ◌∙◌}
use Rattle.std.specs.Option.{option_map}
use Rattle.std.specs.declared.cmp.Ordering.{Ordering}
use Rattle.std.specs.declared.cmp.Ordering.TheVariants.{Less, Equal, Greater}
use Rattle.std.specs.Ordering.{nat_cmp, ordering_reverse}
use Rattle.std.specs.Cmp.Lexicographic.{slice_cmp, nat_list_cmp_total}
use Rattle.std.specs.List.{All}
use Rattle.std.proofs.lemmas.Option.{slice_get-get_or, slice_get-map, same_Some}
use Rattle.std.proofs.lemmas.List.Elements.{All-nil, All-cons, All-head, All-tail, All-map, All-contains, All-contains_itself, All-weaker}
use Rattle.ranked.specs.Entries.{Entry}
use Rattle.ranked.specs.First.{IsFirst, Clear}
use Rattle.ranked.specs.declared.stop.Stop.{Stop}
use Rattle.ranked.specs.declared.stop.Stop.TheVariants.{Refused, Memory}
use Rattle.ranked.proofs.FirstLaws.{unique}
use Rattle.wr_base.proofs.OrderLaws.{one_order, finds}
use Rattle.wr_base.proofs.TypesLemmas.{same_text}
use Rattle.wr_base.specs.Declarations.{name_of, IsInOrder}
use Rattle.wr_base.specs.Places.{part_count, numbered, placed, plain_from}
use Rattle.wr_base.specs.declared.declaration.Declaration.{Declaration}
use Rattle.wr_base.specs.declared.declaration.Param.{Param}
use Rattle.wr_base.specs.declared.declaration.Signature.{Signature}
use Rattle.wr_base.specs.declared.places.DeclPlaces.{DeclPlaces}
use Rattle.wr_rules.specs.Accepted as rules
use Rattle.wr_rules.specs.Accepted.{Accepted, IsName, IsProper, IsUse, Proper}
use Rattle.wr_rules.specs.MemberRules.{signatures_at}
use Rattle.wr_rules.specs.Sites.{Site, sites_of}
use Rattle.wr_rules.specs.Uses.{uses_at}
use Rattle.place_laws.specs.Shapes.{Bare, bare}
use Rattle.place_laws.proofs.ShapeLaws.{at_places, signature_part, signatures_alike, uses_alike}
use Rattle.md_merge.specs.Unions.{all_of, IsNormal, IsUnion, Conflicts, LeastConflict, OnRefused}
use Rattle.md_merge.specs.Merged.{IsSet, IsMerged, BrokenFirst, IsRefusalOf, Gives, Refuses}
use Rattle.md_merge.specs.declared.refusal.MergeRefusal.{MergeRefusal}
use Rattle.md_merge.specs.declared.refusal.MergeRefusal.TheVariants.{Conflict, Broken}
use Rattle.md_merge.proofs.UnionLaws.{all_sets}

-- ---- one union

pub one_union : (sets : List (List Declaration)) (a b : List Declaration) → IsUnion sets a → IsUnion sets b → a ≡ b
one_union sets a b u v = one_order name_of a b u.order.rises v.order.rises (λ d c. v.whole d (u.within d c)) (λ d c. u.whole d (v.within d c))

found : (types : List Declaration) (d : Declaration) → Contains types d → (i : ℕ) × (slice_get types i ≡ Some d)
found types d (i, l, e) = (i, slice_get-get_or types i d l ∙ ap Some e)

-- in a set in order two declarations of one name are one
one_of_name : (types : List Declaration) (a b : Declaration) → IsInOrder types → Contains types a → Contains types b → name_of a ≡ name_of b → a ≡ b
one_of_name types a b order c d e =
    let p = found types a c in
    let q = found types b d in
    same_Some a b (sym (finds types p.0 a (name_of a) order (slice_get-map name_of types p.0 ∙ ap (option_map name_of) p.1) p.1)
    ∙ finds types q.0 b (name_of a) order (slice_get-map name_of types q.0 ∙ ap (option_map name_of) q.1 ∙ ap Some (sym e)) q.1)

pub no_conflict : (sets : List (List Declaration)) (types : List Declaration) (name : List ℕ) → IsUnion sets types → Conflicts sets name → ⊥
no_conflict sets types name u c = c.apart (one_of_name types c.one c.other u.order (u.whole c.one c.one_declared) (u.whole c.other c.other_declared) (c.one_named ∙ sym c.other_named))

least_by : (sets : List (List Declaration)) (a b : List ℕ) (r : Ordering) → slice_cmp nat_cmp a b ≡ r → LeastConflict sets a → LeastConflict sets b → a ≡ b
least_by sets a b Less e h g = absurd (g.least a e h.stands)
least_by sets a b Equal e h g = same_text a b e
least_by sets a b Greater e h g = absurd (h.least b (nat_list_cmp_total.antisymm b a ∙ ap ordering_reverse e) g.stands)

one_least : (sets : List (List Declaration)) (a b : List ℕ) → LeastConflict sets a → LeastConflict sets b → a ≡ b
one_least sets a b h g = least_by sets a b (slice_cmp nat_cmp a b) refl h g

one_broken : (sets : List (List Declaration)) (a b : Entry) → BrokenFirst sets a → BrokenFirst sets b → a ≡ b
one_broken sets a b h g =
    same_Some a b (unique (rules.Broken h.types (plain_from 0 h.types)) (Some a) (Some b) h.first
    (subst (λ (types : List Declaration). IsFirst (rules.Broken types (plain_from 0 types)) (Some b)) (one_union sets g.types h.types g.union h.union) g.first))

not_broken : (types : List Declaration) (entry : Entry) → Accepted types → IsFirst (rules.Broken types (plain_from 0 types)) (Some entry) → ⊥
unfolding IsFirst Clear
not_broken types entry h f = h.clear entry f.stands

merged_whole : (sets : List (List Declaration)) (types : List Declaration) (entry : Entry) → IsMerged sets types → BrokenFirst sets entry → ⊥
merged_whole sets types entry m b =
    not_broken types entry m.accepted (subst (λ (ts : List Declaration). IsFirst (rules.Broken ts (plain_from 0 ts)) (Some entry)) (one_union sets b.types types b.union m.union) b.first)

-- ---- one outcome

pub one_set : (sets : List (List Declaration)) (one other : List Declaration) → IsMerged sets one → IsMerged sets other → one ≡ other
one_set sets one other a b = one_union sets one other a.union b.union

pub not_refused : (sets : List (List Declaration)) (types : List Declaration) (refusal : MergeRefusal) → IsMerged sets types → IsRefusalOf sets refusal → ⊥
not_refused sets types (Conflict name) m r = no_conflict sets types name m.union r.stands
not_refused sets types (Broken entry) m r = merged_whole sets types entry m r

pub one_refusal : (sets : List (List Declaration)) (one other : MergeRefusal) → IsRefusalOf sets one → IsRefusalOf sets other → one ≡ other
one_refusal sets (Conflict a) (Conflict b) h g = ap Conflict (one_least sets a b h g)
one_refusal sets (Conflict a) (Broken b) h g = absurd (no_conflict sets g.types a g.union h.stands)
one_refusal sets (Broken a) (Conflict b) h g = absurd (no_conflict sets h.types b h.union g.stands)
one_refusal sets (Broken a) (Broken b) h g = ap Broken (one_broken sets a b h g)

-- ---- the answer from what it says

pub gives : (sets : List (List Declaration)) (types : List Declaration) (r : Result (List Declaration) (Stop MergeRefusal)) → IfOk r (IsMerged sets) → IfErr r (OnRefused (IsRefusalOf sets)) → IsMerged sets types → Gives types r
gives sets types (Ok x) ok err m = one_set sets x types ok m
gives sets types (Err Memory) ok err m = tt
gives sets types (Err (Refused refusal)) ok err m = not_refused sets types refusal m err

pub refuses : (sets : List (List Declaration)) (refusal : MergeRefusal) (r : Result (List Declaration) (Stop MergeRefusal)) → IfOk r (IsMerged sets) → IfErr r (OnRefused (IsRefusalOf sets)) → IsRefusalOf sets refusal → Refuses refusal r
refuses sets refusal (Ok x) ok err m = not_refused sets x refusal ok m
refuses sets refusal (Err Memory) ok err m = tt
refuses sets refusal (Err (Refused other)) ok err m = one_refusal sets other refusal err m

-- ---- proper sets

un_map : {X Y : Type 0} (P : Y → Type 0) (f : X → Y) (xs : List X) → All P (map f xs) → All (λ x. P (f x)) xs
un_map P f [] h = All-nil (λ x. P (f x))
un_map P f (x ∷ xs) h = All-cons (λ y. P (f y)) x xs (All-head P (f x) (map f xs) h) (un_map P f xs (All-tail P (f x) (map f xs) h))

alike : {X Y : Type 0} (P : Y → Type 0) (f : X → Y) (xs ys : List X) → map f xs ≡ map f ys → All (λ x. P (f x)) xs → All (λ x. P (f x)) ys
alike P f xs ys e h = un_map P f ys (subst (All P) e (All-map P f xs h))

moved : (d : Declaration) (p q : DeclPlaces) → length p.parts ≡ length q.parts → IsProper (at_places d p) → IsProper (at_places d q)
moved d p q e h = record {
  cases = h.cases;
  fields = h.fields;
  members = h.members;
  abis = h.abis;
  params = alike (λ (g : Signature). All (λ (x : Param). IsName x.name) g.params) signature_part (signatures_at (at_places d p)) (signatures_at (at_places d q)) (signatures_alike d p q e) h.params;
  uses = alike (λ (u : Bare). IsUse u.use_) bare (uses_at (at_places d p)) (uses_at (at_places d q)) (uses_alike d p q e) h.uses;
}

numbered_length : (from n : ℕ) → length (numbered from n) ≡ n
numbered_length from zero = refl
numbered_length from (suc n) = ap suc (numbered_length (from + 1) n)

between : (d : Declaration) (n m : ℕ) → IsProper (at_places d (placed n d)) → IsProper (at_places d (placed m d))
between d n m h = moved d (placed n d) (placed m d) (numbered_length (n + 1) (part_count d) ∙ sym (numbered_length (m + 1) (part_count d))) h

-- a declaration of a proper set, by itself
abbrev IsOwn : Declaration → Type 0
IsOwn d = IsProper (at_places d (placed 0 d))

each_own : (n : ℕ) (ds : List Declaration) → All IsProper (sites_of ds (plain_from n ds)) → All IsOwn ds
each_own n [] h = All-nil IsOwn
each_own n (d ∷ ds) h =
    let site : Site = at_places d (placed n d) in
    let others : List Site = sites_of ds (plain_from (n + 1 + part_count d) ds) in
    All-cons IsOwn d ds (between d n 0 (All-head IsProper site others h)) (each_own (n + 1 + part_count d) ds (All-tail IsProper site others h))

all_own : (n : ℕ) (ds : List Declaration) → All IsOwn ds → All IsProper (sites_of ds (plain_from n ds))
all_own n [] h = All-nil IsProper
all_own n (d ∷ ds) h =
    let site : Site = at_places d (placed n d) in
    let others : List Site = sites_of ds (plain_from (n + 1 + part_count d) ds) in
    All-cons IsProper site others (between d 0 n (All-head IsOwn d ds h)) (all_own (n + 1 + part_count d) ds (All-tail IsOwn d ds h))

sets_own : (sets : List (List Declaration)) → All IsSet sets → All IsOwn (all_of sets)
sets_own sets h = all_sets IsOwn sets (All-weaker IsSet (All IsOwn) (λ set s. each_own 0 set s.proper) sets h)

-- the union of proper sets is proper
pub proper_union : (sets : List (List Declaration)) (types : List Declaration) → All IsSet sets → IsUnion sets types → Proper types
proper_union sets types h u = all_own 0 types (All-weaker (Contains types) IsOwn (λ d c. All-contains IsOwn (all_of sets) d (sets_own sets h) (u.within d c)) types (All-contains_itself types))

pub normal_sets : (sets : List (List Declaration)) → All IsSet sets → All (All IsNormal) sets
normal_sets sets h = All-weaker IsSet (All IsNormal) (λ set s. s.normal) sets h
