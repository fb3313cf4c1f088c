-- Ids that are gathered make up the listing.
use Rattle.std.proofs.Common.{◌≡◌, ◌<◌, ◌≤◌, ◌+◌, ℕ, true, false, cond, IsTrue, List, [], ◌∷◌, ◌++◌, Option, Some, None, Result, Ok, Err, OnOk, map, take, length, get_or, slice_get, refl, sym, ap, subst, ◌∙◌, append_assoc, append-nil}
use Rattle.std.specs.List.{flat_map, filter_map, cons_option}
use Rattle.std.proofs.lemmas.Option.{slice_get_within, same_Some, slice_get-get_or}
use Rattle.std.proofs.lemmas.List.Elements.{filter_map-append}
use Rattle.wr_base.specs.Trees.{UseTree, instance, uses_of, within, among, tree_of}
use Rattle.wr_base.specs.declared.type_use.TypeUse.{TypeUse}
use Rattle.wr_base.specs.declared.type_use.TypeUse.TheViews.{Inst}
use Rattle.wr_base.proofs.TreeLaws.{tree_Inst}
use Rattle.std.specs.Option.{option_or, option_map, is_some}
use Rattle.std.specs.Ordering.{nat_cmp, eq_by_cmp}
use Rattle.std.specs.Cmp.Lexicographic.{slice_cmp, nat_list_cmp_total, bytes_decides}
use Rattle.std.specs.Str.{bytes_eq}
use Rattle.std.specs.HashSet.{contains_text}
use Rattle.std.specs.FinMap as map_of
use Rattle.std.proofs.lemmas.List.{take_more, take_all}
use Rattle.std.proofs.lemmas.Map.Text.{is_eq-slice_cmp}
use Rattle.wr_base.specs.Sets.{keyed, set_by}
use Rattle.wr_base.specs.Ids.{id_text}
use Rattle.wr_base.specs.declared.ids.UseId.{UseId}
use Rattle.wr_rules.specs.Kinds.{option_list}
use Rattle.pinterface_id.specs.declared.gathered.Gathered.{Gathered}
use Rattle.pinterface_id.specs.Gathering.{id_under, Agree, Knows, Gathers}

-- the first of two lists comes first
under_both : (xs ys : List UseId) (text : List ℕ) → id_under (xs ++ ys) text ≡ option_or (id_under xs text) (id_under ys text)
under_both [] ys text = refl
under_both (x ∷ xs) ys text = elim (eq_by_cmp (slice_cmp nat_cmp) text (id_text x)) as (λ b. cond b (Some x) (id_under (xs ++ ys) text) ≡ option_or (cond b (Some x) (id_under xs text)) (id_under ys text)) [
  | true ↦ refl
  | false ↦ under_both xs ys text
]

agree_both : (xs ys zs : List UseId) → Agree xs ys → Agree (xs ++ zs) (ys ++ zs)
agree_both xs ys zs a text = under_both xs zs text ∙ ap (λ (o : Option UseId). option_or o (id_under zs text)) (a text) ∙ sym (under_both ys zs text)

-- lists that agree are one listing
pub agree_set : (xs ys : List UseId) → Agree xs ys → set_by id_text xs ≡ set_by id_text ys
agree_set xs ys a =
    ap map_of.values (map_of.same_map nat_list_cmp_total (map_of.slice_cmp-IsAntisymmetric map_of.nat_cmp-IsAntisymmetric) (map_of.from_entries {R = slice_cmp nat_cmp} (keyed id_text xs)) (map_of.from_entries {R = slice_cmp nat_cmp} (keyed id_text ys))
    (λ q. map_of.get-from_entries nat_list_cmp_total (keyed id_text xs) q ∙ a q ∙ sym (map_of.get-from_entries nat_list_cmp_total (keyed id_text ys) q)))

-- nothing more
pub gathers_none : (g : Gathered) → Gathers [] g g
gathers_none g = record { knows = λ k. k; agree = λ k text. ap (λ (ids : List UseId). id_under ids text) (sym (append-nil g.list.items)) }

-- one after the other
pub gathers_then : (a b : List UseId) (g h k : Gathered) → Gathers a g h → Gathers b h k → Gathers (a ++ b) g k
gathers_then a b g h k x y = record {
  knows = λ n. y.knows (x.knows n);
  agree = λ n text. y.agree (x.knows n) text ∙ agree_both h.list.items (g.list.items ++ a) b (x.agree n) text ∙ ap (λ (ids : List UseId). id_under ids text) (append_assoc g.list.items a b);
}

-- the same, as one list
pub gathers_as : (a b c : List UseId) (g h k : Gathered) → c ≡ a ++ b → Gathers a g h → Gathers b h k → Gathers c g k
gathers_as a b c g h k e x y = subst (λ (ids : List UseId). Gathers ids g k) (sym e) (gathers_then a b g h k x y)

-- a tail call
pub gathers_last : {X : Type 0} (r : Result Unit X) (a b c : List UseId) (g h k : Gathered) → c ≡ a ++ b → Gathers a g h → OnOk r (Gathers b h k) → OnOk r (Gathers c g k)
gathers_last (Ok u) a b c g h k e x y = gathers_as a b c g h k e x y
gathers_last (Err z) a b c g h k e x y = tt

-- a loop's turn
pub gathers_turn : {X : Type 0} (f : X → List UseId) (xs : List X) (i : ℕ) (d : X) (g h k : Gathered) → i < length xs → Gathers (flat_map f (take i xs)) g h → Gathers (f (get_or xs i d)) h k
    → Gathers (flat_map f (take (i + 1) xs)) g k
gathers_turn f xs i d g h k l x y =
    gathers_as (flat_map f (take i xs)) (f (get_or xs i d)) (flat_map f (take (i + 1) xs)) g h k (ap (flat_map f) (take_more xs i d l) ∙ flat_both f (take i xs) (get_or xs i d)) x y
  where
    flat_both : {X : Type 0} (f : X → List UseId) (xs : List X) (x : X) → flat_map f (xs ++ x ∷ []) ≡ flat_map f xs ++ f x
    flat_both f [] x = append-nil (f x)
    flat_both f (y ∷ ys) x = ap (λ (t : List UseId). f y ++ t) (flat_both f ys x) ∙ sym (append_assoc (f y) (flat_map f ys) (f x))

some_or : (o p : Option UseId) → IsTrue (is_some o) → option_or o p ≡ o
some_or (Some x) p h = refl
some_or None p h = cc

or_none : (o : Option UseId) → option_or o None ≡ o
or_none None = refl
or_none (Some x) = refl

-- a text that is known has an id already
pub gathers_known : (g : Gathered) (text : List ℕ) (o : Option ℕ) → contains_text g.known text ≡ true → Gathers (option_list (option_map (λ id. record { text = text; id = id }) o)) g g
gathers_known g text None e = gathers_none g
gathers_known g text (Some id) e = record {
  knows = λ k. k;
  agree = λ k q. sym (under_both g.list.items (record { text = text; id = id } ∷ []) q
      ∙ elim (eq_by_cmp (slice_cmp nat_cmp) q text) as (λ b. eq_by_cmp (slice_cmp nat_cmp) q text ≡ b → option_or (id_under g.list.items q) (cond b (Some (record { text = text; id = id })) None) ≡ id_under g.list.items q) [
        | true ↦ λ t. some_or (id_under g.list.items q) (Some (record { text = text; id = id }))
            (subst (λ w. IsTrue (is_some (id_under g.list.items w))) (sym ((bytes_decides q text).0 (sym (is_eq-slice_cmp q text) ∙ t))) (k text e))
        | false ↦ λ t. or_none (id_under g.list.items q)
      ] refl);
}

-- an id is put behind the others
pub gathers_put : (g h : Gathered) (text : List ℕ) (id : ℕ) → ((q : List ℕ) → contains_text h.known q ≡ cond (bytes_eq text q) true (contains_text g.known q))
    → h.list.items ≡ g.list.items ++ record { text = text; id = id } ∷ [] → Gathers (record { text = text; id = id } ∷ []) g h
gathers_put g h text id u e = record {
  knows = λ k q t. subst (λ (ids : List UseId). IsTrue (is_some (id_under ids q))) (sym e) (subst (λ (o : Option UseId). IsTrue (is_some o)) (sym (under_both g.list.items (record { text = text; id = id } ∷ []) q))
      (elim (bytes_eq text q) as (λ b. bytes_eq text q ≡ b → IsTrue (is_some (option_or (id_under g.list.items q) (id_under (record { text = text; id = id } ∷ []) q)))) [
        | true ↦ λ b. subst (λ w. IsTrue (is_some (option_or (id_under g.list.items w) (id_under (record { text = text; id = id } ∷ []) w)))) ((bytes_decides text q).0 b) (either_there (id_under g.list.items text) (record { text = text; id = id })
            (id_under (record { text = text; id = id } ∷ []) text) (ap (λ c. cond c (Some (record { text = text; id = id })) None) (is_eq-slice_cmp text text ∙ (bytes_decides text text).1 refl)))
        | false ↦ λ b. first_there (id_under g.list.items q) (id_under (record { text = text; id = id } ∷ []) q) (k q (sym (u q ∙ ap (λ c. cond c true (contains_text g.known q)) b) ∙ t))
      ] refl));
  agree = λ k q. ap (λ (ids : List UseId). id_under ids q) e;
}
  where
    either_there : (o : Option UseId) (x : UseId) (p : Option UseId) → p ≡ Some x → IsTrue (is_some (option_or o p))
    either_there None x p e = ap is_some e
    either_there (Some y) x p e = refl

    first_there : (o p : Option UseId) → IsTrue (is_some o) → IsTrue (is_some (option_or o p))
    first_there None p h = cc
    first_there (Some y) p h = refl

-- the same known text, where it is all that stands within a use
pub gathers_known_alone : (g : Gathered) (text : List ℕ) (o : Option ℕ) → contains_text g.known text ≡ true → Gathers (cons_option (option_map (λ id. record { text = text; id = id }) o) []) g g
gathers_known_alone g text None e = gathers_none g
gathers_known_alone g text (Some id) e = gathers_known g text (Some id) e

flat_of_map : {X Y : Type 0} (f : Y → List UseId) (h : X → Y) (xs : List X) → flat_map f (map h xs) ≡ flat_map (λ x. f (h x)) xs
flat_of_map f h [] = refl
flat_of_map f h (x ∷ xs) = ap (λ (t : List UseId). f (h x) ++ t) (flat_of_map f h xs)

pub flat_both : {X : Type 0} (f : X → List UseId) (xs ys : List X) → flat_map f (xs ++ ys) ≡ flat_map f xs ++ flat_map f ys
flat_both f [] ys = refl
flat_both f (x ∷ xs) ys = ap (λ (t : List UseId). f x ++ t) (flat_both f xs ys) ∙ sym (append_assoc (f x) (flat_map f xs) (flat_map f ys))

flat_of_flat : {X Y : Type 0} (f : Y → List UseId) (h : X → List Y) (xs : List X) → flat_map f (flat_map h xs) ≡ flat_map (λ x. flat_map f (h x)) xs
flat_of_flat f h [] = refl
flat_of_flat f h (x ∷ xs) = flat_both f (h x) (flat_map h xs) ∙ ap (λ (t : List UseId). flat_map f (h x) ++ t) (flat_of_flat f h xs)

filter_is_flat : {X : Type 0} (h : X → Option UseId) (xs : List X) → filter_map h xs ≡ flat_map (λ x. option_list (h x)) xs
filter_is_flat h [] = refl
filter_is_flat h (x ∷ xs) = first_of (h x) (filter_map h xs) ∙ ap (λ (t : List UseId). option_list (h x) ++ t) (filter_is_flat h xs)
  where
    first_of : (o : Option UseId) (ys : List UseId) → cons_option o ys ≡ option_list o ++ ys
    first_of None ys = refl
    first_of (Some y) ys = refl

-- loops' ends
module _ {X : Type 0} (xs : List X) (i : ℕ) (g h : Gathered) (all_ : length xs ≤ i) where
  pub gathers_flat : (f : X → List UseId) → Gathers (flat_map f (take i xs)) g h → Gathers (flat_map f xs) g h
  gathers_flat f x = subst (λ (ys : List X). Gathers (flat_map f ys) g h) (take_all i xs all_) x

  pub gathers_mapped : {Y : Type 0} (f : Y → List UseId) (to : X → Y) → Gathers (flat_map (λ x. f (to x)) (take i xs)) g h → Gathers (flat_map f (map to xs)) g h
  gathers_mapped f to x = subst (λ (ids : List UseId). Gathers ids g h) (sym (flat_of_map f to xs)) (gathers_flat (λ x. f (to x)) x)

  pub gathers_nested : {Y : Type 0} (f : Y → List UseId) (to : X → List Y) → Gathers (flat_map (λ x. flat_map f (to x)) (take i xs)) g h → Gathers (flat_map f (flat_map to xs)) g h
  gathers_nested f to x = subst (λ (ids : List UseId). Gathers ids g h) (sym (flat_of_flat f to xs)) (gathers_flat (λ x. flat_map f (to x)) x)

  pub gathers_filtered : (f : X → Option UseId) → Gathers (flat_map (λ x. option_list (f x)) (take i xs)) g h → Gathers (filter_map f xs) g h
  gathers_filtered f x = subst (λ (ids : List UseId). Gathers ids g h) (sym (filter_is_flat f xs)) (gathers_flat (λ x. option_list (f x)) x)

-- a loop's turn, where the element is known by its place
pub gathers_turn_at : {X : Type 0} (f : X → List UseId) (xs : List X) (i : ℕ) (x : X) (g h k : Gathered) → slice_get xs i ≡ Some x → Gathers (flat_map f (take i xs)) g h → Gathers (f x) h k
    → Gathers (flat_map f (take (i + 1) xs)) g k
gathers_turn_at f xs i x g h k at a b =
    let l : i < length xs = slice_get_within xs i x at in
    gathers_turn f xs i x g h k l a (subst (λ y. Gathers (f y) h k) (same_Some x (get_or xs i x) (sym at ∙ slice_get-get_or xs i x l)) b)

-- what stands within an instance: itself, and what stands within its arguments
pub within_instance : (f : UseTree → Option UseId) (name : List ℕ) (us : List UseTree) → filter_map f (within (instance name (uses_of us))) ≡ option_list (f (instance name (uses_of us))) ++ flat_map (λ u. filter_map f (within u)) us
within_instance f name us = filter_is_flat f (within (instance name (uses_of us))) ∙ ap (λ (t : List UseId). option_list (f (instance name (uses_of us))) ++ t) (sym (filter_is_flat f (among (uses_of us))) ∙ among_is us)
  where
    among_is : (us : List UseTree) → filter_map f (among (uses_of us)) ≡ flat_map (λ u. filter_map f (within u)) us
    among_is [] = refl
    among_is (u ∷ us) = filter_map-append f (within u) (among (uses_of us)) ∙ ap (λ (t : List UseId). filter_map f (within u) ++ t) (among_is us)

-- what is gathered under the use that is seen is gathered under the use that it is
pub gathers_instance : (f : UseTree → Option UseId) (ty : TypeUse) (name : List ℕ) (arguments : List TypeUse) (g h : Gathered) → ty ≡ Inst name arguments
    → Gathers (option_list (f (tree_of ty)) ++ flat_map (λ a. filter_map f (within (tree_of a))) arguments) g h → Gathers (filter_map f (within (tree_of ty))) g h
gathers_instance f ty name arguments g h is x =
    let seen : tree_of ty ≡ instance name (uses_of (map tree_of arguments)) = ap tree_of is ∙ tree_Inst name arguments in
    subst (λ (t : UseTree). Gathers (filter_map f (within t)) g h) (sym seen)
    (subst (λ (ids : List UseId). Gathers ids g h) (sym (within_instance f name (map tree_of arguments) ∙ ap (λ (ids : List UseId). option_list (f (instance name (uses_of (map tree_of arguments)))) ++ ids) (flat_of_map (λ u. filter_map f (within u)) tree_of arguments)))
    (subst (λ (t : UseTree). Gathers (option_list (f t) ++ flat_map (λ a. filter_map f (within (tree_of a))) arguments) g h) seen x))

-- a loop's turn, at the item as it was read
pub gathers_item : {X : Type 0} (f : X → List UseId) (xs : List X) (i : ℕ) (x : X) (g h k : Gathered) → i < length xs → x ≡ get_or xs i x → Gathers (flat_map f (take i xs)) g h → Gathers (f x) h k
    → Gathers (flat_map f (take (i + 1) xs)) g k
gathers_item f xs i x g h k l e a b = gathers_turn f xs i x g h k l a (subst (λ y. Gathers (f y) h k) e b)

-- an id that is there, under its text
pub gathers_there : {X : Type 0} (r : Result Unit X) (o : Option ℕ) (text t : List ℕ) (id : ℕ) (g h : Gathered) → o ≡ Some id → text ≡ t
    → OnOk r (Gathers (record { text = t; id = id } ∷ []) g h) → OnOk r (Gathers (option_list (option_map (λ i. record { text = text; id = i }) o)) g h)
gathers_there r o text t id g h e q x =
    subst (λ (w : Option ℕ). OnOk r (Gathers (option_list (option_map (λ i. record { text = text; id = i }) w)) g h)) (sym e)
    (subst (λ (w : List ℕ). OnOk r (Gathers (record { text = w; id = id } ∷ []) g h)) (sym q) x)

-- four lists of uses one after the other
pub flat_four : {X : Type 0} (f : X → List UseId) (a b c d : List X) → flat_map f (a ++ b ++ c ++ d) ≡ ((flat_map f a ++ flat_map f b) ++ flat_map f c) ++ flat_map f d
flat_four f a b c d =
    flat_both f (a ++ b ++ c) d ∙ ap (λ (t : List UseId). t ++ flat_map f d) (flat_both f (a ++ b) c ∙ ap (λ (t : List UseId). t ++ flat_map f c) (flat_both f a b))

-- all that is gathered from nothing is the listing
pub gathers_all : (g h k : Gathered) (a b : List UseId) → Knows g → g.list.items ≡ [] → Gathers a g h → Gathers b h k → set_by id_text k.list.items ≡ set_by id_text (a ++ b)
gathers_all g h k a b n e x y =
    agree_set k.list.items (g.list.items ++ (a ++ b)) ((gathers_then a b g h k x y).agree n) ∙ ap (λ (ids : List UseId). set_by id_text (ids ++ (a ++ b))) e
