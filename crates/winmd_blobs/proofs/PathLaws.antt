-- Names in uses that are short, use by use.
use Rattle.std.proofs.Common.{◌≡◌, ◌&&◌, ◌+◌, ◌<◌, ℕ, Bool, true, false, List, [], ◌∷◌, ◌++◌, map, take, length, get_or, refl, sym, ap, ◌∙◌}
use Rattle.std.specs.List.{list_all, flat_map}
use Rattle.std.proofs.lemmas.List.{take_more}
use Rattle.std.proofs.lemmas.List.Folds.{list_all-append}
use Rattle.wr_base.specs.Paths.{is_short_name}
use Rattle.wr_base.specs.declared.declaration.Param.{Param}
use Rattle.wr_base.specs.declared.type_use.TypeUse.{TypeUse}
use Rattle.wr_base.specs.declared.type_use.TypeUse.TheVariants.{Inst}
use Rattle.wr_base.specs.Trees.{ParamTree, tree_of, uses_of, param_tree}
use Rattle.wr_base.proofs.TreeLaws.{tree_Inst}
use Rattle.winmd_sets.specs.Blobs.{paths_in, paths_among}

pub and_assoc : (a b c : Bool) → ((a && b) && c) ≡ (a && (b && c))
and_assoc true b c = refl
and_assoc false b c = refl

and_true : (a : Bool) → (a && true) ≡ a
and_true true = refl
and_true false = refl

-- among the names that each of some items gives
module _ {A : Type 0} (names : A → List (List ℕ)) where
  abbrev pub all_short : List A → Bool
  all_short xs = list_all is_short_name (flat_map names xs)

  short_cons : (x : A) (xs : List A) → all_short (x ∷ xs) ≡ (list_all is_short_name (names x) && all_short xs)
  short_cons x xs = list_all-append is_short_name (names x) (flat_map names xs)

  short_append : (xs ys : List A) → all_short (xs ++ ys) ≡ (all_short xs && all_short ys)
  short_append [] ys = refl
  short_append (x ∷ xs) ys =
      short_cons x (xs ++ ys) ∙ ap (λ b. list_all is_short_name (names x) && b) (short_append xs ys) ∙ sym (and_assoc (list_all is_short_name (names x)) (all_short xs) (all_short ys))
      ∙ ap (λ b. b && all_short ys) (sym (short_cons x xs))

  -- one more of the first ones
  pub short_more : (xs : List A) (i : ℕ) (x : A) → i < length xs → x ≡ get_or xs i x → all_short (take (i + 1) xs) ≡ (all_short (take i xs) && list_all is_short_name (names x))
  short_more xs i x l e =
      ap all_short (take_more xs i x l ∙ ap (λ (v : A). take i xs ++ v ∷ []) (sym e)) ∙ short_append (take i xs) (x ∷ [])
      ∙ ap (λ b. all_short (take i xs) && b) (short_cons x [] ∙ and_true (list_all is_short_name (names x)))

abbrev pub names_of_use : TypeUse → List (List ℕ)
names_of_use u = paths_in (tree_of u)

abbrev pub names_of_param : Param → List (List ℕ)
names_of_param p = paths_in (tree_of p.ty)

among_is : (us : List TypeUse) → paths_among (uses_of (map tree_of us)) ≡ flat_map names_of_use us
among_is [] = refl
among_is (u ∷ us) = ap (λ xs. names_of_use u ++ xs) (among_is us)

pub params_are : (ps : List Param) → flat_map (λ (param : ParamTree). paths_in param.kind) (map param_tree ps) ≡ flat_map names_of_param ps
params_are [] = refl
params_are (p ∷ ps) = ap (λ xs. names_of_param p ++ xs) (params_are ps)

-- an instance, then what is within it
pub instance_short : (u : TypeUse) (name : List ℕ) (arguments : List TypeUse) → u ≡ Inst name arguments → list_all is_short_name (paths_in (tree_of u)) ≡ (is_short_name name && all_short names_of_use arguments)
instance_short u name arguments e =
    ap (λ t. list_all is_short_name (paths_in t)) (ap tree_of e ∙ tree_Inst name arguments)
    ∙ ap (λ xs. is_short_name name && list_all is_short_name xs) (among_is arguments)

pub none_yet : (b : Bool) → b ≡ (b && true)
none_yet b = sym (and_true b)
