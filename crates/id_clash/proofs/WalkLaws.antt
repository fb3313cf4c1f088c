-- Texts of instances, use by use.
use Rattle.std.proofs.Common.{◌≡◌, ◌<◌, ◌≤◌, ◌+◌, ℕ, List, [], ◌∷◌, ◌++◌, map, take, length, get_or, refl, sym, ap, subst, ◌∙◌, append_assoc, append-nil, string_bytes, String}
use Rattle.std.specs.List.{flat_map}
use Rattle.std.specs.declared.alloc.Global.{Global}
use Rattle.std.proofs.lemmas.List.{take_more, take_all, map-append}
use Rattle.std.proofs.lemmas.Grind.{flat_map-append}
use Rattle.wr_base.specs.Trees.{UseTree, text_of_tree}
use Rattle.id_clash.specs.Items.{Puts, texts_in}

pub puts_none : (old : List (List ℕ)) → Puts [] old old
puts_none old = sym (append-nil old)

pub puts_then : (xs ys : List UseTree) (old mid new : List (List ℕ)) → Puts xs old mid → Puts ys mid new → Puts (xs ++ ys) old new
puts_then xs ys old mid new a b =
    b ∙ ap (λ t. t ++ map text_of_tree ys) a ∙ append_assoc old (map text_of_tree xs) (map text_of_tree ys) ∙ ap (λ t. old ++ t) (sym (map-append text_of_tree xs ys))

pub puts_as : (xs ys : List UseTree) (old new : List (List ℕ)) → ys ≡ xs → Puts xs old new → Puts ys old new
puts_as xs ys old new e a = subst (λ us. Puts us old new) (sym e) a

pub puts_one : (u : UseTree) (texts new : List (String Global)) (text : String Global) → string_bytes text ≡ text_of_tree u → new ≡ texts ++ text ∷ [] → Puts (u ∷ []) (texts_in texts) (texts_in new)
puts_one u texts new text e n = ap texts_in n ∙ map-append (λ t. string_bytes t) texts (text ∷ []) ∙ ap (λ t. texts_in texts ++ t ∷ []) e

flat_of_map : {X Y Z : Type 0} (f : Y → List Z) (h : X → Y) (xs : List X) → flat_map f (map h xs) ≡ flat_map (λ x. f (h x)) xs
flat_of_map f h [] = refl
flat_of_map f h (x ∷ xs) = ap (λ t. f (h x) ++ t) (flat_of_map f h xs)

-- ---- loops

module _ {X : Type 0} (f : X → List UseTree) (xs : List X) where
  pub puts_start : (old : List (List ℕ)) → Puts (flat_map f (take 0 xs)) old old
  puts_start old = puts_as [] (flat_map f (take 0 xs)) old old (none xs) (puts_none old)
    where
      none : (ys : List X) → flat_map f (take 0 ys) ≡ []
      none [] = refl
      none (y ∷ ys) = refl

  pub puts_item : (i : ℕ) (x : X) (old mid new : List (List ℕ)) → i < length xs → x ≡ get_or xs i x → Puts (flat_map f (take i xs)) old mid → Puts (f x) mid new → Puts (flat_map f (take (i + 1) xs)) old new
  puts_item i x old mid new l e p q =
      puts_as (flat_map f (take i xs) ++ f x) (flat_map f (take (i + 1) xs)) old new
      (ap (flat_map f) (take_more xs i x l) ∙ flat_map-append f (take i xs) (get_or xs i x ∷ []) ∙ ap (λ t. flat_map f (take i xs) ++ t) (append-nil (f (get_or xs i x)) ∙ ap f (sym e)))
      (puts_then (flat_map f (take i xs)) (f x) old mid new p q)

  pub puts_flat : (i : ℕ) (old new : List (List ℕ)) → length xs ≤ i → Puts (flat_map f (take i xs)) old new → Puts (flat_map f xs) old new
  puts_flat i old new l p = subst (λ ys. Puts (flat_map f ys) old new) (take_all i xs l) p

pub puts_mapped : {X Y : Type 0} (f : Y → List UseTree) (to : X → Y) (xs : List X) (old new : List (List ℕ)) → Puts (flat_map (λ x. f (to x)) xs) old new → Puts (flat_map f (map to xs)) old new
puts_mapped f to xs old new p = puts_as (flat_map (λ x. f (to x)) xs) (flat_map f (map to xs)) old new (flat_of_map f to xs) p
