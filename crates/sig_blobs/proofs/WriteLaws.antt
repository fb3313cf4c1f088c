-- What is written one after the other.
use Rattle.std.proofs.Common.{◌≡◌, ℕ, suc, ◌+◌, ◌<◌, ◌≤◌, List, [], ◌∷◌, ◌++◌, length, take, map, get_or, refl, sym, ap, ◌∙◌, append_assoc, append-nil}
use Rattle.std.specs.List.{flat_map}
use Rattle.std.proofs.lemmas.List.{take_more, take_all, map-append, length-map}
use Rattle.std.proofs.lemmas.List.Concat.{flat_map-append}
use Rattle.wr_base.specs.Trees.{UseTree, uses_of, count_of, instance, tree_of}
use Rattle.wr_base.specs.declared.type_use.TypeUse.{TypeUse}
use Rattle.wr_base.specs.declared.type_use.TypeUse.TheViews.{Inst}
use Rattle.wr_base.proofs.TreeLaws.{tree_Inst}
use Rattle.md_heaps.specs.Integers.{shortest}
use Rattle.sig_blobs.specs.Templates.{template}
use Rattle.sig_blobs.specs.Writing.{Numbers, use_bytes, uses_bytes, template_bytes}

pub uses_are : (token : Numbers) (us : List UseTree) → uses_bytes token (uses_of us) ≡ flat_map (use_bytes token) us
uses_are token [] = refl
uses_are token (u ∷ us) = ap (λ (x : List ℕ). use_bytes token u ++ x) (uses_are token us) ∙ refl

-- one item more
pub put_more : {X Y : Type 0} (view : X → Y) (bytes : Y → List ℕ) (xs : List X) (i : ℕ) (d : X) (before old new : List ℕ) → i < length xs → old ≡ before ++ flat_map bytes (map view (take i xs)) → new ≡ old ++ bytes (view (get_or xs i d))
    → new ≡ before ++ flat_map bytes (map view (take (i + 1) xs))
put_more view bytes xs i d before old new lt o n =
    let more : flat_map bytes (map view (take (i + 1) xs)) ≡ flat_map bytes (map view (take i xs)) ++ bytes (view (get_or xs i d)) =
    ap (λ ys. flat_map bytes (map view ys)) (take_more xs i d lt) ∙ ap (flat_map bytes) (map-append view (take i xs) (get_or xs i d ∷ []))
    ∙ flat_map-append bytes (map view (take i xs)) (view (get_or xs i d) ∷ []) ∙ ap (λ ys. flat_map bytes (map view (take i xs)) ++ ys) (append-nil _) in
    n ∙ ap (λ ys. ys ++ bytes (view (get_or xs i d))) o ∙ append_assoc before _ _ ∙ ap (λ ys. before ++ ys) (sym more)

pub count_is : (us : List UseTree) → count_of (uses_of us) ≡ length us
count_is [] = refl
count_is (u ∷ us) = ap (λ n. suc n) (count_is us)

-- all of an instance
pub instance_put : (token : Numbers) (name : List ℕ) (arguments : List TypeUse) (n : ℕ) (use_ : TypeUse) (before head new : List ℕ) → length arguments ≤ n → use_ ≡ Inst name arguments
    → head ≡ before ++ template_bytes token name (length arguments) → new ≡ head ++ flat_map (use_bytes token) (map tree_of (take n arguments)) → new ≡ before ++ use_bytes token (tree_of use_)
instance_put token name arguments n use_ before head new all is h e =
    let trees : List UseTree = map tree_of arguments in
    let count : count_of (uses_of trees) ≡ length arguments = count_is trees ∙ length-map arguments tree_of in
    let tree : tree_of use_ ≡ instance name (uses_of trees) = ap tree_of is ∙ tree_Inst name arguments in
    let written : use_bytes token (tree_of use_) ≡ template_bytes token name (length arguments) ++ flat_map (use_bytes token) trees =
    ap (use_bytes token) tree ∙ ap (λ k. template_bytes token name k ++ uses_bytes token (uses_of trees)) count ∙ ap (λ xs. template_bytes token name (length arguments) ++ xs) (uses_are token trees) in
    e ∙ ap (λ xs. head ++ flat_map (use_bytes token) (map tree_of xs)) (take_all n arguments all) ∙ ap (λ xs. xs ++ flat_map (use_bytes token) trees) h ∙ append_assoc before _ _ ∙ ap (λ xs. before ++ xs) (sym written)

-- a template's element, its token, and the number of its arguments
pub template_put : (token : Numbers) (name full : List ℕ) (count : ℕ) (old one two : List ℕ) → full ≡ template name count → one ≡ old ++ 0x15 ∷ [] → two ≡ one ++ 0x12 ∷ shortest (token full)
    → two ++ shortest count ≡ old ++ template_bytes token name count
template_put token name full count old one two f a b =
    let s : List ℕ = shortest (token (template name count)) in
    let t : List ℕ = shortest count in
    let two_is : two ≡ (old ++ 0x15 ∷ []) ++ 0x12 ∷ s = b ∙ ap (λ xs. xs ++ 0x12 ∷ shortest (token full)) a ∙ ap (λ n. (old ++ 0x15 ∷ []) ++ 0x12 ∷ shortest (token n)) f in
    ap (λ xs. xs ++ t) (two_is ∙ append_assoc old (0x15 ∷ []) (0x12 ∷ s)) ∙ append_assoc old (0x15 ∷ 0x12 ∷ s) t
