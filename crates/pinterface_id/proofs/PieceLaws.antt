-- Pieces written and pieces left.
use Rattle.std.proofs.Common.{◌≡◌, ◌≤◌, ◌+◌, ◌-◌, ℕ, suc, Bool, false, cond, List, [], ◌∷◌, ◌++◌, Option, Some, None, length, map, reverse, sum_by, refl, sym, ap, ◌∙◌, arith, append_assoc, Result, Ok, Err, OnOk, option_to_list}
use Rattle.std.proofs.lemmas.List.{map-append, reverse-append}
use Rattle.wr_base.specs.declared.type_use.TypeUse.{TypeUse}
use Rattle.pinterface_id.specs.declared.stack.Work.{Work}
use Rattle.std.specs.List.{flat_map}
use Rattle.wr_base.specs.declared.declaration.Declaration.{Declaration}
use Rattle.wr_base.specs.Trees.{UseTree, tree_of}
use Rattle.wr_rules.specs.Signatures.{Piece, semicolon, closing, is_open, joined, pieces_in, pieces_of, part as piece_part, grouped, level_pieces, nested}
use Rattle.pinterface_id.specs.Stack.{Item, part, leave, put, name_at, names_open, rest, Apart, Opened, closed_at, deeper, item_of, items_of}

pub put_put : (a b : List ℕ) (o : Option (List ℕ)) → put a (put b o) ≡ put (a ++ b) o
put_put a b None = refl
put_put a b (Some r) = ap (λ t. Some t) (sym (append_assoc a b r))

pub joined_put : (a : List ℕ) (ps : List Piece) → joined (Some a ∷ ps) ≡ put a (joined ps)
joined_put a ps = refl

-- two pieces written as one text
pub two_put : (a b t : List ℕ) (ps : List Piece) → t ≡ a ++ b → joined (Some a ∷ Some b ∷ ps) ≡ put t (joined ps)
two_put a b t ps e = put_put a b (joined ps) ∙ ap (λ x. put x (joined ps)) (sym e)

pub four_put : (a b c d t : List ℕ) (ps : List Piece) → t ≡ a ++ (b ++ (c ++ d)) → joined (Some a ∷ Some b ∷ Some c ∷ Some d ∷ ps) ≡ put t (joined ps)
four_put a b c d t ps e =
    ap (λ o. put a (put b o)) (put_put c d (joined ps))
    ∙ ap (put a) (put_put b (c ++ d) (joined ps))
    ∙ put_put a (b ++ (c ++ d)) (joined ps)
    ∙ ap (λ x. put x (joined ps)) (sym e)

pub three_texts : (old a b c t1 t2 t3 : List ℕ) → t1 ≡ old ++ a → t2 ≡ t1 ++ b → t3 ≡ t2 ++ c → t3 ≡ old ++ (a ++ b ++ c)
three_texts old a b c t1 t2 t3 x y z = z ∙ ap (λ t. t ++ c) (y ∙ ap (λ t. t ++ b) x) ∙ append_assoc (old ++ a) b c ∙ append_assoc old a (b ++ c) ∙ ap (λ t. old ++ t) (sym (append_assoc a b c))

pub two_texts : (old a b t1 t2 : List ℕ) → t1 ≡ old ++ a → t2 ≡ t1 ++ b → t2 ≡ old ++ (a ++ b)
two_texts old a b t1 t2 x y = y ∙ ap (λ t. t ++ b) x ∙ append_assoc old a b

pub on_ok_then : {X E : Type 0} (r : Result X E) (P Q : Type 0) → (P → Q) → OnOk r P → OnOk r Q
on_ok_then (Ok x) P Q f h = f h
on_ok_then (Err e) P Q f h = tt

-- one more on the stack
pub items_push : (ws : List Work) (w : Work) → items_of (ws ++ w ∷ []) ≡ item_of w ∷ items_of ws
items_push ws w = ap reverse (map-append item_of ws (w ∷ [])) ∙ reverse-append (map item_of ws) (item_of w ∷ [])

pub items_popped : (old new : List Work) (o : Option Work) (w : Work) → old ≡ new ++ option_to_list o → o ≡ Some w → items_of old ≡ item_of w ∷ items_of new
items_popped old new o w e s = ap items_of (e ∙ ap (λ x. new ++ option_to_list x) s) ∙ items_push new w

pub map_twice : {A B C : Type 0} (f : B → C) (g : A → B) (xs : List A) → map f (map g xs) ≡ map (λ x. f (g x)) xs
map_twice f g [] = refl
map_twice f g (x ∷ xs) = ap (λ t. f (g x) ∷ t) (map_twice f g xs)

module _ (types : List Declaration) where
  -- what stands in a struct or class that isn't open yet
  pub nested_is : (word name : List ℕ) (i : ℕ) (uses : List TypeUse) (st : List Item) → name_at types i ≡ name → is_open (names_open types st) name ≡ false
      → nested types (deeper types (names_open types st)) (names_open types st) word name uses
      ≡ (Some (word ++ 40 ∷ name) ∷ flat_map piece_part (map (λ u. pieces_of types (names_open types (leave i ∷ st)) u) (map tree_of uses)) ++ closing ∷ [])
  nested_is word name i uses st e shut =
      ap (λ (b : Bool). grouped word name (cond b [] (map (λ u. deeper types (names_open types st) (name ∷ names_open types st) (tree_of u)) uses))) shut
      ∙ ap (grouped word name) (sym (map_twice (λ u. pieces_of types (name ∷ names_open types st) u) tree_of uses))
      ∙ ap (λ n. grouped word name (map (λ u. pieces_of types (n ∷ names_open types st) u) (map tree_of uses))) (sym e)

  -- parts on the stack
  pub names_parts : (us : List UseTree) (st : List Item) → names_open types (map part us ++ st) ≡ names_open types st
  names_parts [] st = refl
  names_parts (u ∷ us) st = names_parts us st

  pub rest_parts : (us : List UseTree) (st : List Item)
      → rest types (map part us ++ st) ≡ flat_map piece_part (map (λ u. pieces_of types (names_open types st) u) us) ++ rest types st
  rest_parts [] st = refl
  rest_parts (u ∷ us) st =
      ap (λ (ns : List (List ℕ)). semicolon ∷ pieces_of types ns u ++ rest types (map part us ++ st)) (names_parts us st)
      ∙ ap (λ (ps : List Piece). semicolon ∷ pieces_of types (names_open types st) u ++ ps) (rest_parts us st)
      ∙ sym (append_assoc (semicolon ∷ pieces_of types (names_open types st) u) (flat_map piece_part (map (λ v. pieces_of types (names_open types st) v) us)) (rest types st))

  pub apart_parts : (us : List UseTree) (st : List Item) → Apart types st → Apart types (map part us ++ st)
  apart_parts [] st a = a
  apart_parts (u ∷ us) st a = apart_parts us st a

  -- no deeper than there are declarations
  pub one_level : (inside : List (List ℕ)) (u : UseTree) → length inside ≤ length types
      → pieces_of types inside u ≡ level_pieces types (pieces_in types (length types + 1 - suc (length inside))) inside u
  one_level inside u l =
      let e : length types + 1 - length inside ≡ suc (length types + 1 - suc (length inside)) = omega (arith, l) in
      ap (λ n. pieces_in types n inside u) e

  pub opened_parts : (open_ : List Bool) (us : List UseTree) (st : List Item) → Opened types open_ st → Opened types open_ (map part us ++ st)
  opened_parts open_ us st o = record {
    apart = apart_parts us st o.apart;
    flags = λ i l. o.flags i l ∙ ap (λ ns. is_open ns (name_at types i)) (sym (names_parts us st));
    size = o.size;
    depth = ap (λ (ns : List (List ℕ)). length ns + sum_by closed_at open_) (names_parts us st) ∙ o.depth;
  }
