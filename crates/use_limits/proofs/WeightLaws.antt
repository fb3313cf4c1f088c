-- Weights of uses, use by use.
use Rattle.std.proofs.Common.{◌≡◌, ◌+◌, ◌<◌, ℕ, List, [], ◌∷◌, ◌++◌, map, sum, sum_by, take, length, get_or, refl, sym, ap, ◌∙◌, arith}
use Rattle.std.proofs.lemmas.List.{take_more}
use Rattle.std.proofs.lemmas.List.Sums.{sum_by-cons, sum-map}
use Rattle.wr_base.specs.declared.type_use.TypeUse.{TypeUse}
use Rattle.wr_base.specs.declared.type_use.TypeUse.TheVariants.{Inst}
use Rattle.wr_base.specs.Trees.{UseTree, plain, value, reference, instance, tree_of, uses_of, within, among}
use Rattle.wr_base.proofs.TreeLaws.{tree_Inst}
use Rattle.wr_rules.specs.Sites.{Site}
use Rattle.wr_rules.specs.Uses.{Used, uses_at}
use Rattle.wr_rules.specs.UseRules.{inner}
use Rattle.wr_rules.specs.Kinds.{use_name}
use Rattle.wr_rules.specs.Limits.{words_in, bytes_in, bytes_by}
use Rattle.use_limits.specs.Weights.{one_word, name_bytes, weight_of, weight_at}

sum_both : {X : Type 0} (f : X → ℕ) (xs ys : List X) → sum_by f (xs ++ ys) ≡ sum_by f xs + sum_by f ys
sum_both f [] ys = omega arith
sum_both f (x ∷ xs) ys = let a = sum_by-cons f x (xs ++ ys) in let b = sum_by-cons f x xs in let r = sum_both f xs ys in omega (arith, a, b, r)

module _ (weigh : UseTree → ℕ) where
  -- of some uses
  abbrev pub sum_of : List TypeUse → ℕ
  sum_of uses = sum_by weigh (among (uses_of (map tree_of uses)))

  sum_cons : (u : TypeUse) (us : List TypeUse) → sum_of (u ∷ us) ≡ weight_of weigh (tree_of u) + sum_of us
  sum_cons u us = sum_both weigh (within (tree_of u)) (among (uses_of (map tree_of us)))

  sum_append : (us vs : List TypeUse) → sum_of (us ++ vs) ≡ sum_of us + sum_of vs
  sum_append [] vs = omega arith
  sum_append (u ∷ us) vs = let a = sum_cons u (us ++ vs) in let b = sum_cons u us in let r = sum_append us vs in omega (arith, a, b, r)

  -- one more of the first ones
  pub sum_more : (us : List TypeUse) (i : ℕ) (u : TypeUse) → i < length us → u ≡ get_or us i u → sum_of (take (i + 1) us) ≡ sum_of (take i us) + weight_of weigh (tree_of u)
  sum_more us i u l e =
      let p = ap sum_of (take_more us i u l ∙ ap (λ (v : TypeUse). take i us ++ v ∷ []) (sym e)) in
      let q = sum_append (take i us) (u ∷ []) in
      let r = sum_cons u [] in
      let z : sum_of [] ≡ 0 = refl in
      omega (arith, p, q, r, z)

  -- an instance, then what is within it
  pub sum_instance : (u : TypeUse) (name : List ℕ) (arguments : List TypeUse) → u ≡ Inst name arguments → weight_of weigh (tree_of u) ≡ weigh (tree_of u) + sum_of arguments
  sum_instance u name arguments e =
      ap (λ t. weight_of weigh t) tree ∙ sum_by-cons weigh (instance name (uses_of (map tree_of arguments))) (among (uses_of (map tree_of arguments))) ∙ ap (λ t. weigh t + sum_of arguments) (sym tree)
    where
      tree : tree_of u ≡ instance name (uses_of (map tree_of arguments))
      tree = ap tree_of e ∙ tree_Inst name arguments

  -- a use by itself, and what is within it
  pub weight_parts : (u : UseTree) → weight_of weigh u ≡ weigh u + sum_by weigh (inner u)
  weight_parts (plain base) = sum_by-cons weigh (plain base) []
  weight_parts (value name) = sum_by-cons weigh (value name) []
  weight_parts (reference name) = sum_by-cons weigh (reference name) []
  weight_parts (instance name arguments) = sum_by-cons weigh (instance name arguments) (among arguments)

ones : {X : Type 0} (xs : List X) (f : X → ℕ) → ((x : X) → f x ≡ 1) → sum_by f xs ≡ length xs
ones [] f h = refl
ones (x ∷ xs) f h = let a = sum_by-cons f x xs in let r = ones xs f h in let o = h x in omega (arith, a, r, o)

sum_same : {X : Type 0} (f g : X → ℕ) (xs : List X) → ((x : X) → f x ≡ g x) → sum_by f xs ≡ sum_by g xs
sum_same f g [] h = refl
sum_same f g (x ∷ xs) h = let a = sum_by-cons f x xs in let b = sum_by-cons g x xs in let r = sum_same f g xs h in let o = h x in omega (arith, a, b, r, o)

pub words_weigh : (s : Site) → sum_by (weight_at one_word) (uses_at s) ≡ words_in s
words_weigh s = sum_same (weight_at one_word) (λ u. length (within u.use_)) (uses_at s) (λ u. ones (within u.use_) one_word (λ v. refl)) ∙ sym (sum-map (λ (u : Used). length (within u.use_)) (uses_at s))

pub bytes_weigh : (s : Site) → sum_by (weight_at name_bytes) (uses_at s) ≡ bytes_in s
bytes_weigh s =
    sum_same (weight_at name_bytes) (λ u. sum (map (λ v. bytes_by (use_name v)) (within u.use_))) (uses_at s) (λ u. sym (sum-map name_bytes (within u.use_)))
    ∙ sym (sum-map (λ (u : Used). sum (map (λ v. bytes_by (use_name v)) (within u.use_))) (uses_at s))

map_both : {X Y : Type 0} (f : X → Y) (xs ys : List X) → map f (xs ++ ys) ≡ map f xs ++ map f ys
map_both f [] ys = refl
map_both f (x ∷ xs) ys = ap (λ l. f x ∷ l) (map_both f xs ys)

-- one more, by a view
pub viewed_more : {X Y : Type 0} (f : Y → ℕ) (view : X → Y) (xs : List X) (i : ℕ) (x : X) → i < length xs → x ≡ get_or xs i x → sum_by f (map view (take (i + 1) xs)) ≡ sum_by f (map view (take i xs)) + f (view x)
viewed_more {X = X} f view xs i x l e =
    let p = ap (λ (zs : List X). sum_by f (map view zs)) (take_more xs i x l ∙ ap (λ (z : X). take i xs ++ z ∷ []) (sym e)) ∙ ap (sum_by f) (map_both view (take i xs) (x ∷ [])) in
    let q = sum_both f (map view (take i xs)) (view x ∷ []) in
    let r = sum_by-cons f (view x) [] in
    let z : sum_by f [] ≡ 0 = refl in
    omega (arith, p, q, r, z)
