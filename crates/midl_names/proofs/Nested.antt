-- Trees within trees as lists.
use Rattle.std.proofs.Common.{◌≡◌, ℕ, List, [], ◌∷◌, ◌++◌, refl, ap, sym, ◌∙◌}
use Rattle.std.specs.List.{flat_map}
use Rattle.midl_tree.specs.declared.terminal.Terminal.{Terminal}
use Rattle.midl_tree.specs.Trees.{ItemTree, space, items_of, TypeTree, named, types_of}
use Rattle.midl_names.specs.Items.{Item, texts, items_in, items_among}
use Rattle.midl_names.specs.Uses.{uses_in, uses_among}

pub items_flat : (file : ℕ) (around : List (List ℕ)) (ts : List ItemTree) → items_among file around (items_of ts) ≡ flat_map (items_in file around) ts
items_flat file around [] = refl
items_flat file around (t ∷ ts) = ap (λ (is : List Item). items_in file around t ++ is) (items_flat file around ts)

pub uses_flat : (ts : List TypeTree) → uses_among (types_of ts) ≡ flat_map uses_in ts
uses_flat [] = refl
uses_flat (t ∷ ts) = ap (λ (us : List TypeTree). uses_in t ++ us) (uses_flat ts)

pub block : (file : ℕ) (around inner : List (List ℕ)) (name : List Terminal) (ts us : List ItemTree) → inner ≡ around ++ texts name → us ≡ ts
    → flat_map (items_in file inner) us ≡ items_in file around (space name (items_of ts))
block file around inner name ts us i u =
    ap (λ (parts : List (List ℕ)). flat_map (items_in file parts) us) i ∙ ap (flat_map (items_in file (around ++ texts name))) u ∙ sym (items_flat file (around ++ texts name) ts)

pub use_here : (path : List Terminal) (ts us : List TypeTree) (t : TypeTree) → t ≡ named path (types_of ts) → us ≡ ts → t ∷ flat_map uses_in us ≡ uses_in t
use_here path ts us t n u =
    ap (λ (vs : List TypeTree). t ∷ flat_map uses_in vs) u
    ∙ ap (λ (vs : List TypeTree). t ∷ vs) (sym (uses_flat ts))
    ∙ ap (λ (s : TypeTree). s ∷ uses_among (types_of ts)) n
    ∙ ap uses_in (sym n)
