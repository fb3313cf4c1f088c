-- What a use names.
use Rattle.std.proofs.Common.{◌≡◌, ℕ, suc, ◌≤◌, List, [], ◌∷◌, ◌++◌, map, take, length, Result, OnOk, refl, sym, ap, subst, ◌∙◌, append-nil}
use Rattle.std.specs.List.{flat_map}
use Rattle.std.proofs.lemmas.List.{length-map}
use Rattle.wr_base.specs.declared.type_use.TypeUse.{TypeUse}
use Rattle.wr_base.specs.declared.type_use.TypeUse.TheViews.{Inst}
use Rattle.wr_base.specs.Trees.{UseTree, instance, uses_of, count_of, tree_of}
use Rattle.wr_base.proofs.TreeLaws.{tree_Inst}
use Rattle.sig_blobs.specs.Templates.{template}
use Rattle.winmd_lines.specs.Lines.{Type_}
use Rattle.winmd_lines.specs.UsedNames.{names_in_use, names_in_uses}
use Rattle.winmd_uses.specs.Takes.{Takes, both, cell_says, names_alone, spec_alone}
use Rattle.winmd_uses.specs.declared.used.Used.{Used}
use Rattle.winmd_uses.proofs.TakeLaws.{Same, each, each_names, same_lists, takes_all, takes_last, takes_then}

names_are : (us : List UseTree) → names_in_uses (uses_of us) ≡ flat_map names_in_use us
names_are [] = refl
names_are (u ∷ us) = ap (λ (ns : List (List ℕ)). names_in_use u ++ ns) (names_are us)

count_is : (us : List UseTree) → count_of (uses_of us) ≡ length us
count_is [] = refl
count_is (u ∷ us) = ap (λ n. suc n) (count_is us)

-- an instance: its template's name, and the names in its arguments
pub instance_taken : (name : List ℕ) (arguments items : List TypeUse) (i : ℕ) (u : TypeUse) (g h k : Used) → length items ≤ i → items ≡ arguments → u ≡ Inst name arguments
    → Takes (names_alone (template name (length items) ∷ [])) g h → Takes (each (λ (v : TypeUse). names_alone (names_in_use (tree_of v))) (take i items)) h k → Takes (names_alone (names_in_use (tree_of u))) g k
instance_taken name arguments items i u g h k all same is x y =
    let trees : List UseTree = map tree_of arguments in
    let tree : tree_of u ≡ instance name (uses_of trees) = ap tree_of is ∙ tree_Inst name arguments in
    let count : length items ≡ count_of (uses_of trees) = ap length same ∙ sym (count_is trees ∙ length-map arguments tree_of) in
    let whole : template name (length items) ∷ flat_map names_in_use (map tree_of items) ≡ names_in_use (tree_of u) =
    ap (λ (n : ℕ). template name n ∷ flat_map names_in_use (map tree_of items)) count ∙ ap (λ (vs : List TypeUse). template name (count_of (uses_of trees)) ∷ flat_map names_in_use (map tree_of vs)) same
    ∙ ap (λ (ns : List (List ℕ)). template name (count_of (uses_of trees)) ∷ ns) (sym (names_are trees)) ∙ sym (ap names_in_use tree) in
    let rest : Takes (names_alone (flat_map names_in_use (map tree_of items))) h k =
    takes_all (λ (v : TypeUse). names_alone (names_in_use (tree_of v))) items i (names_alone (flat_map names_in_use (map tree_of items))) h k all (each_names names_in_use tree_of items) y in
    subst (λ (ns : List (List ℕ)). Takes (names_alone ns) g k) whole (takes_then (names_alone (template name (length items) ∷ [])) (names_alone (flat_map names_in_use (map tree_of items))) g h k x rest)

-- a cell that leads to an instance: its TypeSpec, and the names in its row
pub instance_cell : {X : Type 0} (r : Result Unit X) (name : List ℕ) (arguments : List TypeUse) (u : TypeUse) (g h k : Used) → u ≡ Inst name arguments → Takes (spec_alone (tree_of u)) g h → OnOk r (Takes (names_alone (names_in_use (tree_of u))) h k)
    → OnOk r (Takes (cell_says (Type_ (tree_of u))) g k)
instance_cell r name arguments u g h k is x y =
    let t : UseTree = instance name (uses_of (map tree_of arguments)) in
    let tree : tree_of u ≡ t = ap tree_of is ∙ tree_Inst name arguments in
    let said : Same (both (spec_alone t) (names_alone (names_in_use t))) (cell_says (Type_ t)) =
    same_lists (both (spec_alone t) (names_alone (names_in_use t))) (cell_says (Type_ t)) (sym (append-nil (names_in_use t ++ []) ∙ append-nil (names_in_use t))) refl refl in
    takes_last r (spec_alone (tree_of u)) (names_alone (names_in_use (tree_of u))) (cell_says (Type_ (tree_of u))) g h k
    (subst (λ (w : UseTree). Same (both (spec_alone w) (names_alone (names_in_use w))) (cell_says (Type_ w))) (sym tree) said) x y
