-- Uses in the order of their rows.
use Rattle.std.proofs.Common.{◌≡◌, ◌+◌, ◌<◌, ◌∙◌, ℕ, true, List, [], ◌∷◌, ◌++◌, map, take, length, get_or, Result, Ok, Err, refl, sym, ap}
use Rattle.std.specs.Prelude.{IfOk}
use Rattle.std.specs.List.{list_all}
use Rattle.std.proofs.lemmas.List.{take_more, map-append}
use Rattle.winmd_lines.specs.Names.{Names}
use Rattle.winmd_lines.specs.Orders.{sort_by}
use Rattle.winmd_sets.specs.Rows.{interfaces_in_order}
use Rattle.winmd_writer.proofs.SortLaws.{sorted_mapped}
use Rattle.wr_base.specs.Trees.{UseTree, tree_of}
use Rattle.wr_base.specs.declared.type_use.TypeUse.{TypeUse}
use Rattle.interface_order.specs.Order.{number_of, placed_of}
use Rattle.interface_order.specs.declared.order.Placed.{Placed}

-- one item more
pub mapped_more : {X Y : Type 0} (f : X → Y) (old new : List Y) (xs : List X) (i : ℕ) (x : X) → i < length xs → get_or xs i x ≡ x → new ≡ old ++ f x ∷ [] → old ≡ map f (take i xs) → new ≡ map f (take (i + 1) xs)
mapped_more {X = X} {Y = Y} f old new xs i x l e step so =
    step ∙ ap (λ (ys : List Y). ys ++ f x ∷ []) so ∙ sym (map-append f (take i xs) (x ∷ []))
    ∙ ap (map f) (sym (take_more xs i x l ∙ ap (λ (y : X). take i xs ++ y ∷ []) e))

all_pass : {A : Type 0} (xs : List A) → list_all (λ (x : A). true) xs ≡ true
all_pass [] = refl
all_pass (x ∷ xs) = all_pass xs

uses_again : (names : Names) (uses : List TypeUse) → map (λ (placed : Placed). placed.ty) (map (placed_of names) uses) ≡ uses
uses_again names [] = refl
uses_again names (u ∷ us) = ap (λ (xs : List TypeUse). u ∷ xs) (uses_again names us)

pub ordered : (names : Names) (uses : List TypeUse) → map tree_of (map (λ (placed : Placed). placed.ty) (sort_by (λ (placed : Placed). placed.number) (map (placed_of names) uses))) ≡ interfaces_in_order names (map tree_of uses)
ordered names uses =
    let of_placed : List Placed → List UseTree = λ all. map tree_of (map (λ (placed : Placed). placed.ty) all) in
    ap of_placed (sym (sorted_mapped (number_of names) (λ (placed : Placed). placed.number) (placed_of names) (λ (u : TypeUse). true) (λ u h. refl) uses (all_pass uses)))
    ∙ ap (map tree_of) (uses_again names (sort_by (number_of names) uses))
    ∙ sorted_mapped (number_of names) _ tree_of (λ (u : TypeUse). true) (λ u h. refl) uses (all_pass uses)

pub if_ok_then : {X E : Type 0} (r : Result X E) (P Q : X → Type 0) → ((x : X) → P x → Q x) → IfOk r P → IfOk r Q
if_ok_then (Ok x) P Q f h = f x h
if_ok_then (Err e) P Q f h = tt
