-- Tables of ids, use by use.
use Rattle.std.proofs.Common.{◌≡◌, ◌<◌, ◌≤◌, ◌+◌, ℕ, true, false, cond, if◌then◌else◌, List, [], ◌∷◌, ◌++◌, Option, Some, None, Result, Ok, Err, OnOk, map, take, length, get_or, slice_get, refl, sym, ap, subst, ◌∙◌, append_assoc, append-nil}
use Rattle.std.specs.List.{flat_map, filter_map}
use Rattle.std.specs.Map.{update}
use Rattle.std.specs.Option.{option_map, option_or, is_some}
use Rattle.std.specs.Str.{bytes_eq}
use Rattle.std.specs.Cmp.Lexicographic.{bytes_decides}
use Rattle.std.proofs.lemmas.List.{take_more, take_all}
use Rattle.std.proofs.lemmas.List.Elements.{filter_map-append}
use Rattle.std.proofs.lemmas.Option.{slice_get_within, same_Some, slice_get-get_or}
use Rattle.wr_base.specs.declared.declaration.Declaration.{Declaration}
use Rattle.wr_base.specs.declared.type_use.Base.{Base}
use Rattle.wr_base.specs.declared.type_use.TypeUse.{TypeUse}
use Rattle.wr_base.specs.declared.type_use.TypeUse.TheViews.{Inst}
use Rattle.wr_base.specs.declared.type_use.TypeUse.TheVariants.{Plain, Value, Reference}
use Rattle.wr_base.specs.Trees.{UseTree, instance, uses_of, within, among, tree_of, text_of_tree}
use Rattle.wr_base.proofs.TreeLaws.{tree_Plain, tree_Value, tree_Reference, tree_Inst}
use Rattle.wr_rules.specs.Signatures.{id_of}
use Rattle.wr_rules.specs.NameRules.{is_instance, first_of}
use Rattle.id_rules.specs.Table.{first_id, instances_within, Adds}

-- ---- the first of two lists comes first

first_both : (xs ys : List UseTree) (text : List ℕ) → first_of (xs ++ ys) text ≡ option_or (first_of xs text) (first_of ys text)
first_both [] ys text = refl
first_both (x ∷ xs) ys text = elim (bytes_eq (text_of_tree x) text) as (λ b. (if b then Some x else first_of (xs ++ ys) text) ≡ option_or (if b then Some x else first_of xs text) (first_of ys text)) [
  | true ↦ refl
  | false ↦ first_both xs ys text
]

module _ {X : Type 0} where
  or_none : (o : Option X) → option_or o None ≡ o
  or_none None = refl
  or_none (Some x) = refl

  or_or : (o p q : Option X) → option_or (option_or o p) q ≡ option_or o (option_or p q)
  or_or None p q = refl
  or_or (Some x) p q = refl

  some_or : (o p : Option X) → is_some o ≡ true → option_or o p ≡ o
  some_or (Some x) p h = refl
  some_or None p h = cc

  none_or : (o p : Option X) → is_some o ≡ false → option_or o p ≡ p
  none_or (Some x) p h = cc
  none_or None p h = refl

  none_first : (o p : Option X) → o ≡ None → option_or o p ≡ p
  none_first o p e = ap (λ q. option_or q p) e

map_or : {X Y : Type 0} (f : X → Y) (o p : Option X) → option_map f (option_or o p) ≡ option_or (option_map f o) (option_map f p)
map_or f None p = refl
map_or f (Some x) p = refl

flat_both : {X Y : Type 0} (f : X → List Y) (xs ys : List X) → flat_map f (xs ++ ys) ≡ flat_map f xs ++ flat_map f ys
flat_both f [] ys = refl
flat_both f (x ∷ xs) ys = ap (λ t. f x ++ t) (flat_both f xs ys) ∙ sym (append_assoc (f x) (flat_map f xs) (flat_map f ys))

flat_of_map : {X Y Z : Type 0} (f : Y → List Z) (h : X → Y) (xs : List X) → flat_map f (map h xs) ≡ flat_map (λ x. f (h x)) xs
flat_of_map f h [] = refl
flat_of_map f h (x ∷ xs) = ap (λ t. f (h x) ++ t) (flat_of_map f h xs)

pub on_ok_then : {X E : Type 0} (P Q : Type 0) → (P → Q) → (r : Result X E) → OnOk r P → OnOk r Q
on_ok_then P Q f (Ok x) h = f h
on_ok_then P Q f (Err e) h = h

-- ---- tables

module _ (types : List Declaration) where
  ids_both : (xs ys : List UseTree) (text : List ℕ) → first_id types (xs ++ ys) text ≡ option_or (first_id types xs text) (first_id types ys text)
  ids_both xs ys text = ap (option_map (id_of types)) (first_both xs ys text) ∙ map_or (id_of types) (first_of xs text) (first_of ys text)

  pub adds_none : (f : List ℕ → Option (Option ℕ)) → Adds types [] f f
  adds_none f text = sym (or_none (f text))

  pub adds_then : (xs ys : List UseTree) (f g h : List ℕ → Option (Option ℕ)) → Adds types xs f g → Adds types ys g h → Adds types (xs ++ ys) f h
  adds_then xs ys f g h a b text =
      b text ∙ ap (λ o. option_or o (first_id types ys text)) (a text) ∙ or_or (f text) (first_id types xs text) (first_id types ys text) ∙ ap (λ o. option_or (f text) o) (sym (ids_both xs ys text))

  pub adds_as : (xs ys : List UseTree) (f g : List ℕ → Option (Option ℕ)) → ys ≡ xs → Adds types xs f g → Adds types ys f g
  adds_as xs ys f g e a = subst (λ us. Adds types us f g) (sym e) a

  -- what an empty table gains is all that it has
  pub adds_all : (xs : List UseTree) (f g : List ℕ → Option (Option ℕ)) → ((text : List ℕ) → f text ≡ None) → Adds types xs f g → (text : List ℕ) → g text ≡ first_id types xs text
  adds_all xs f g n a text = a text ∙ none_first (f text) (first_id types xs text) (n text)

  -- a text that is there
  pub adds_known : (v : UseTree) (f : List ℕ → Option (Option ℕ)) → is_some (f (text_of_tree v)) ≡ true → Adds types (v ∷ []) f f
  adds_known v f k text = sym (elim (bytes_eq (text_of_tree v) text) as (λ b. bytes_eq (text_of_tree v) text ≡ b → option_or (f text) (option_map (id_of types) (if b then Some v else None)) ≡ f text) [
    | true ↦ λ e. some_or (f text) (Some (id_of types v)) (subst (λ t. is_some (f t) ≡ true) ((bytes_decides (text_of_tree v) text).0 e) k)
    | false ↦ λ e. or_none (f text)
  ] refl)

  -- a text that is new
  pub adds_new : (v : UseTree) (f g : List ℕ → Option (Option ℕ)) (o : Option ℕ) → is_some (f (text_of_tree v)) ≡ false → o ≡ id_of types v → ((q : List ℕ) → g q ≡ update bytes_eq f (text_of_tree v) (Some o) q)
      → Adds types (v ∷ []) f g
  adds_new v f g o n i u text = u text ∙ elim (bytes_eq (text_of_tree v) text) as (λ b. bytes_eq (text_of_tree v) text ≡ b → cond b (Some o) (f text) ≡ option_or (f text) (option_map (id_of types) (if b then Some v else None))) [
    | true ↦ λ e. ap (λ x. Some x) i ∙ sym (none_or (f text) (Some (id_of types v)) (subst (λ t. is_some (f t) ≡ false) ((bytes_decides (text_of_tree v) text).0 e) n))
    | false ↦ λ e. sym (or_none (f text))
  ] refl

  -- ---- loops

  module _ {X : Type 0} (f : X → List UseTree) (xs : List X) (i : ℕ) where
    pub adds_item : (x : X) (a b c : List ℕ → Option (Option ℕ)) → i < length xs → x ≡ get_or xs i x → Adds types (flat_map f (take i xs)) a b → Adds types (f x) b c → Adds types (flat_map f (take (i + 1) xs)) a c
    adds_item x a b c l e p q =
        adds_as (flat_map f (take i xs) ++ f x) (flat_map f (take (i + 1) xs)) a c
        (ap (flat_map f) (take_more xs i x l) ∙ flat_both f (take i xs) (get_or xs i x ∷ []) ∙ ap (λ t. flat_map f (take i xs) ++ t) (append-nil (f (get_or xs i x)) ∙ ap f (sym e)))
        (adds_then (flat_map f (take i xs)) (f x) a b c p q)

    pub adds_at : (x : X) (a b c : List ℕ → Option (Option ℕ)) → slice_get xs i ≡ Some x → Adds types (flat_map f (take i xs)) a b → Adds types (f x) b c → Adds types (flat_map f (take (i + 1) xs)) a c
    adds_at x a b c at p q =
        let l : i < length xs = slice_get_within xs i x at in
        adds_item x a b c l (same_Some x (get_or xs i x) (sym at ∙ slice_get-get_or xs i x l)) p q

    pub adds_flat : (a b : List ℕ → Option (Option ℕ)) → length xs ≤ i → Adds types (flat_map f (take i xs)) a b → Adds types (flat_map f xs) a b
    adds_flat a b all_ p = subst (λ ys. Adds types (flat_map f ys) a b) (take_all i xs all_) p

  pub none_taken : {X : Type 0} (f : X → List UseTree) (xs : List X) (g : List ℕ → Option (Option ℕ)) → Adds types (flat_map f (take 0 xs)) g g
  none_taken f [] g = adds_none g
  none_taken f (x ∷ xs) g = adds_none g

  pub adds_mapped : {X Y : Type 0} (f : Y → List UseTree) (to : X → Y) (xs : List X) (a b : List ℕ → Option (Option ℕ)) → Adds types (flat_map (λ x. f (to x)) xs) a b → Adds types (flat_map f (map to xs)) a b
  adds_mapped f to xs a b p = adds_as (flat_map (λ x. f (to x)) xs) (flat_map f (map to xs)) a b (flat_of_map f to xs) p

-- ---- one use

-- no instance stands within a fundamental type or a name
pub none_Plain : (u : TypeUse) (base : Base) → u ≡ Plain base → instances_within (tree_of u) ≡ []
none_Plain u base e = ap (λ t. instances_within t) (ap tree_of e ∙ tree_Plain base)

pub none_Value : (u : TypeUse) (name : List ℕ) → u ≡ Value name → instances_within (tree_of u) ≡ []
none_Value u name e = ap (λ t. instances_within t) (ap tree_of e ∙ tree_Value name)

pub none_Reference : (u : TypeUse) (name : List ℕ) → u ≡ Reference name → instances_within (tree_of u) ≡ []
none_Reference u name e = ap (λ t. instances_within t) (ap tree_of e ∙ tree_Reference name)

among_is : (us : List UseTree) → filter_map (λ v. if is_instance v then Some v else None) (among (uses_of us)) ≡ flat_map instances_within us
among_is [] = refl
among_is (u ∷ us) = filter_map-append (λ v. if is_instance v then Some v else None) (within u) (among (uses_of us)) ∙ ap (λ t. instances_within u ++ t) (among_is us)

-- an instance, then those within its arguments
pub inst_within : (u : TypeUse) (name : List ℕ) (arguments : List TypeUse) → u ≡ Inst name arguments → instances_within (tree_of u) ≡ (tree_of u ∷ []) ++ flat_map (λ a. instances_within (tree_of a)) arguments
inst_within u name arguments e =
    let seen : tree_of u ≡ instance name (uses_of (map tree_of arguments)) = ap tree_of e ∙ tree_Inst name arguments in
    ap (λ t. instances_within t) seen ∙ ap (λ t. instance name (uses_of (map tree_of arguments)) ∷ t) (among_is (map tree_of arguments) ∙ flat_of_map instances_within tree_of arguments)
    ∙ ap (λ t. t ∷ flat_map (λ a. instances_within (tree_of a)) arguments) (sym seen)

pub inst_is : (u : TypeUse) (name : List ℕ) (arguments : List TypeUse) → u ≡ Inst name arguments → is_instance (tree_of u) ≡ true
inst_is u name arguments e = ap is_instance (ap tree_of e ∙ tree_Inst name arguments)
