-- Chains of places stand for chains of structs.
use Rattle.std.proofs.Common.{◌≡◌, ◌<◌, ◌↔◌, ℕ, zero, suc, List, [], ◌∷◌, ◌++◌, Option, Some, None, Contains, map, length, slice_get, get_or, take, append_assoc, append-nil, ◌+◌, inl, inr, ⊎_elim, refl, sym, ap, subst, ◌∙◌, arith}
use Rattle.std.specs.Option.{option_and_then}
use Rattle.std.specs.List.{flat_map}
use Rattle.std.specs.Global.{Vec}
use Rattle.std.proofs.lemmas.List.{take_more}
use Rattle.std.proofs.lemmas.Option.{same_Some, none-some}
use Rattle.chains.specs.Groups.{graph_of}
use Rattle.chains.specs.Graphs.{In, Step, steps_of, Chain as GraphChain, one as graph_one, further as graph_further, IsClosed}
use Rattle.chains.proofs.Members.{In-left, In-right, In-append}
use Rattle.wr_base.specs.declared.declaration.Declaration.{Declaration}
use Rattle.wr_base.specs.declared.declaration.Field.{Field}
use Rattle.wr_base.specs.Declarations.{name_of, IsInOrder}
use Rattle.wr_base.specs.Trees.{UseTree, plain, value, reference, instance, tree_of}
use Rattle.wr_rules.specs.Kinds.{option_list}
use Rattle.wr_rules.specs.Members.{fields_of}
use Rattle.wr_rules.specs.Closures.{Chain, one, further, Names, Holds}
use Rattle.struct_cycles.specs.Places.{place_in, direct_name, step_of, held_by}
use Rattle.struct_cycles.proofs.PlaceLaws.{place_declared, declared_place, place_is, named_at}

names_told : (u : UseTree) (name : List ℕ) → direct_name u ≡ Some name → Names u name
names_told (plain base) name e = absurd (none-some name e)
names_told (value own) name e = same_Some own name e
names_told (reference own) name e = same_Some own name e
names_told (instance own arguments) name e = absurd (none-some name e)

tell_names : (u : UseTree) (name : List ℕ) → Names u name → direct_name u ≡ Some name
tell_names (plain base) name h = absurd h
tell_names (value own) name h = ap (λ (n : List ℕ). Some n) h
tell_names (reference own) name h = ap (λ (n : List ℕ). Some n) h
tell_names (instance own arguments) name h = absurd h

module _ (types : List Declaration) where
  step_told : (o : Option (List ℕ)) (b : ℕ) → In b (option_list (option_and_then (place_in types) o)) → (name : List ℕ) × (o ≡ Some name) × (place_in types name ≡ Some b)
  step_told None b h = absurd h
  step_told (Some name) b h = (name, refl, placed (place_in types name) h)
    where
      placed : (p : Option ℕ) → In b (option_list p) → p ≡ Some b
      placed None h = absurd h
      placed (Some a) (inl q) = ap (λ (n : ℕ). Some n) q
      placed (Some a) (inr q) = absurd q

  tell_step : (o : Option (List ℕ)) (name : List ℕ) (b : ℕ) → o ≡ Some name → place_in types name ≡ Some b → In b (option_list (option_and_then (place_in types) o))
  tell_step o name b e p = subst (λ (q : Option (List ℕ)). In b (option_list (option_and_then (place_in types) q))) (sym e) (subst (λ (q : Option ℕ). In b (option_list q)) (sym p) (inl refl))

  -- what the fields of a declaration hold
  held_told : (fs : List Field) (b : ℕ) → In b (flat_map (step_of types) fs) → (f : Field) × (name : List ℕ) × Contains fs f × (direct_name (tree_of f.ty) ≡ Some name) × (place_in types name ≡ Some b)
  held_told [] b h = absurd h
  held_told (f ∷ fs) b h = ⊎_elim
      (λ i. (let r = step_told (direct_name (tree_of f.ty)) b i in (f, r.0, (0, omega arith, refl), r.1, r.2)))
      (λ i. (let r = held_told fs b i in (r.0, r.1, (suc r.2.0, (let l = r.2.1 in omega (arith, l)), r.2.2), r.3, r.4)))
      (In-append b (step_of types f) (flat_map (step_of types) fs) h)

  tell_held : (fs : List Field) (f : Field) (name : List ℕ) (b : ℕ) → Contains fs f → direct_name (tree_of f.ty) ≡ Some name → place_in types name ≡ Some b → In b (flat_map (step_of types) fs)
  tell_held [] f name b (k, l, e) d p = absurd (omega (arith, l))
  tell_held (g ∷ fs) f name b (zero, l, e) d p = In-left b (step_of types g) (flat_map (step_of types) fs) (subst (λ (x : Field). In b (step_of types x)) (sym e) (tell_step (direct_name (tree_of f.ty)) name b d p))
  tell_held (g ∷ fs) f name b (suc k, l, e) d p = In-right b (step_of types g) (flat_map (step_of types) fs) (tell_held fs f name b (k, omega (arith, l), e) d p)

flat_both : {X : Type 0} (f : X → List ℕ) (xs ys : List X) → flat_map f (xs ++ ys) ≡ flat_map f xs ++ flat_map f ys
flat_both f [] ys = refl
flat_both f (x ∷ xs) ys = ap (λ t. f x ++ t) (flat_both f xs ys) ∙ sym (append_assoc (f x) (flat_map f xs) (flat_map f ys))

-- what one more field holds
pub flat_turn : {X : Type 0} (f : X → List ℕ) (xs : List X) (i : ℕ) (x : X) (first old new : List ℕ) → i < length xs → x ≡ get_or xs i x → old ≡ first ++ flat_map f (take i xs) → new ≡ old ++ f x → new ≡ first ++ flat_map f (take (i + 1) xs)
flat_turn f xs i x first old new l e o n =
    n ∙ ap (λ t. t ++ f x) o ∙ append_assoc first (flat_map f (take i xs)) (f x) ∙ ap (λ t. first ++ t)
    (sym (ap (flat_map f) (take_more xs i x l) ∙ flat_both f (take i xs) (get_or xs i x ∷ []) ∙ ap (λ t. flat_map f (take i xs) ++ t) (append-nil (f (get_or xs i x)) ∙ ap f (sym e))))

map_both : {X Y : Type 0} (f : X → Y) (xs ys : List X) → map f (xs ++ ys) ≡ map f xs ++ map f ys
map_both f [] ys = refl
map_both f (x ∷ xs) ys = ap (λ l. f x ∷ l) (map_both f xs ys)

get_there : {X : Type 0} (xs : List X) (i : ℕ) (x d : X) → slice_get xs i ≡ Some x → get_or xs i d ≡ x
get_there [] i x d e = absurd (none-some x e)
get_there (y ∷ ys) zero x d e = same_Some y x e
get_there (y ∷ ys) (suc i) x d e = get_there ys i x d e

-- the steps from one more declaration
pub graph_turn : (F : Declaration → List ℕ) (ds : List Declaration) (i : ℕ) (d : Declaration) (old new : List (Vec ℕ)) (list : Vec ℕ) → i < length ds → slice_get ds i ≡ Some d → graph_of old ≡ map F (take i ds) → new ≡ old ++ list ∷ [] → list.items ≡ F d
    → graph_of new ≡ map F (take (i + 1) ds)
graph_turn F ds i d old new list l e o n f =
    ap graph_of n ∙ map_both (λ (v : Vec ℕ). v.items) old (list ∷ []) ∙ ap (λ t. t ++ list.items ∷ []) o ∙ ap (λ t. map F (take i ds) ++ t ∷ []) f
    ∙ sym (ap (map F) (take_more ds i d l) ∙ map_both F (take i ds) (get_or ds i d ∷ []) ∙ ap (λ t. map F (take i ds) ++ F t ∷ []) (get_there ds i d d e))

steps_there : (F : Declaration → List ℕ) (ds : List Declaration) (a : ℕ) (d : Declaration) → slice_get ds a ≡ Some d → steps_of (map F ds) a ≡ F d
steps_there F [] a d e = absurd (none-some d e)
steps_there F (x ∷ xs) zero d e = ap F (same_Some x d e)
steps_there F (x ∷ xs) (suc a) d e = steps_there F xs a d e

steps_from : (F : Declaration → List ℕ) (ds : List Declaration) (a b : ℕ) → In b (steps_of (map F ds) a) → (d : Declaration) × (slice_get ds a ≡ Some d)
steps_from F [] a b h = absurd h
steps_from F (x ∷ xs) zero b h = (x, refl)
steps_from F (x ∷ xs) (suc a) b h = steps_from F xs a b h

pub there_below : (ds : List Declaration) (a : ℕ) (d : Declaration) → slice_get ds a ≡ Some d → a < length ds
there_below [] a d e = absurd (none-some d e)
there_below (x ∷ xs) zero d e = omega arith
there_below (x ∷ xs) (suc a) d e = let l = there_below xs a d e in omega (arith, l)

module _ (types : List Declaration) (graph : List (List ℕ)) (is : graph ≡ map (held_by types) types) where
  -- a step is a field that holds what stands there
  step_holds : (a b : ℕ) (d : Declaration) → slice_get types a ≡ Some d → Step graph a b → IsInOrder types → (e : Declaration) × (slice_get types b ≡ Some e) × Holds types (name_of d) (name_of e)
  step_holds a b d at s o =
      let r = held_told types (fields_of d) b (subst (In b) (ap (λ (g : List (List ℕ)). steps_of g a) is ∙ steps_there (held_by types) types a d at) s) in
      let p = place_declared types r.1 b r.4 in
      let here = place_declared types (name_of d) a (place_is types a (name_of d) o (named_at types a d at)) in
      let same : here.0 ≡ d = same_Some here.0 d (sym here.1 ∙ at) in
      (p.0, p.1, (d, r.0, here.2 ∙ ap (λ (x : Declaration). Some x) same, r.2, subst (Names (tree_of r.0.ty)) (sym p.3) (names_told (tree_of r.0.ty) r.1 r.3)))

  holds_step : (holder name : List ℕ) (a b : ℕ) → place_in types holder ≡ Some a → place_in types name ≡ Some b → Holds types holder name → Step graph a b
  holds_step holder name a b pa pb h =
      let here = place_declared types holder a pa in
      let same : here.0 ≡ h.0 = same_Some here.0 h.0 (sym here.2 ∙ h.2) in
      subst (In b) (sym (ap (λ (g : List (List ℕ)). steps_of g a) is ∙ steps_there (held_by types) types a h.0 (here.1 ∙ ap (λ (x : Declaration). Some x) same)))
      (tell_held types (fields_of h.0) h.1 name b h.3 (tell_names (tree_of h.1.ty) name h.4) pb)

  chain_up : (a b : ℕ) (d : Declaration) → IsInOrder types → slice_get types a ≡ Some d → GraphChain graph a b → (e : Declaration) × (slice_get types b ≡ Some e) × Chain (Holds types) (name_of d) (name_of e)
  chain_up a b d o at (graph_one s) = let r = step_holds a b d at s o in (r.0, r.1, one r.2)
  chain_up a b d o at (graph_further c s) =
      let m = chain_up a _ d o at c in
      let r = step_holds _ b m.0 m.1 s o in
      (r.0, r.1, further m.2 r.2)

  chain_down : (holder name : List ℕ) (a b : ℕ) → place_in types holder ≡ Some a → place_in types name ≡ Some b → Chain (Holds types) holder name → GraphChain graph a b
  chain_down holder name a b pa pb (one h) = graph_one (holds_step holder name a b pa pb h)
  chain_down holder name a b pa pb (further c h) =
      let p = declared_place types _ h.0 h.2 in
      graph_further (chain_down holder _ a p.0 pa p.1 c) (holds_step _ name p.0 b p.1 pb h)

  -- each step leads to a declaration
  pub closed_graph : IsClosed graph (length types)
  closed_graph a b s =
      let d = steps_from (held_by types) types a b (subst (λ (g : List (List ℕ)). In b (steps_of g a)) is s) in
      let r = held_told types (fields_of d.0) b (subst (In b) (ap (λ (g : List (List ℕ)). steps_of g a) is ∙ steps_there (held_by types) types a d.0 d.1) s) in
      let p = place_declared types r.1 b r.4 in
      there_below types b p.0 p.1

  -- a place comes back to itself where its struct holds itself
  pub cycle_is : (k : ℕ) (d : Declaration) → IsInOrder types → slice_get types k ≡ Some d → GraphChain graph k k ↔ Chain (Holds types) (name_of d) (name_of d)
  cycle_is k d o at = (
    λ c. (let r = chain_up k k d o at c in subst (λ (x : Declaration). Chain (Holds types) (name_of d) (name_of x)) (same_Some r.0 d (sym r.1 ∙ at)) r.2),
    λ c. (let p = place_is types k (name_of d) o (named_at types k d at) in chain_down (name_of d) (name_of d) k k p p c),
  )
