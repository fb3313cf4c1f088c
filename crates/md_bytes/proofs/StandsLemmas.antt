-- Parts that stand in a list at an offset.
use Rattle.std.proofs.Common.{◌≡◌, ℕ, zero, suc, ◌+◌, ◌<◌, List, [], ◌∷◌, ◌++◌, length, get_or, take, drop, map, refl, sym, ap, subst, ◌∙◌, append_assoc, arith, length-append}
use Rattle.std.specs.List.{flat_map}
use Rattle.std.proofs.lemmas.List.{take_at, drop_at, append-nil}
use Rattle.std.proofs.lemmas.List.Concat.{flat_map-cons}
use Rattle.md_bytes.specs.Bytes.{total}
use Rattle.md_bytes.specs.Stands.{Stands}

pub stands_first : {A : Type 0} (part back : List A) → Stands (part ++ back) 0 part
stands_first part back = record { front = []; back = back; split = refl; at = refl }

pub stands_all : {A : Type 0} (part : List A) → Stands part 0 part
stands_all part = record { front = []; back = []; split = sym (append-nil part); at = refl }

pub stands_behind : {A : Type 0} (front whole part : List A) (offset : ℕ) → Stands whole offset part → Stands (front ++ whole) (length front + offset) part
stands_behind front whole part offset s = record {
  front = front ++ s.front;
  back = s.back;
  split = ap (λ x. front ++ x) s.split ∙ sym (append_assoc front s.front (part ++ s.back));
  at = length-append front s.front ∙ ap (λ n. length front + n) s.at;
}

pub stands_before : {A : Type 0} (whole back part : List A) (offset : ℕ) → Stands whole offset part → Stands (whole ++ back) offset part
stands_before whole back part offset s = record {
  front = s.front;
  back = s.back ++ back;
  split = ap (λ x. x ++ back) s.split ∙ append_assoc s.front (part ++ s.back) back ∙ ap (λ x. s.front ++ x) (append_assoc part s.back back);
  at = s.at;
}

-- a part of a part
pub stands_in : {A : Type 0} (whole part inner : List A) (i j : ℕ) → Stands whole i part → Stands part j inner → Stands whole (i + j) inner
stands_in {A} whole part inner i j s t =
    let e : whole ≡ s.front ++ (part ++ s.back) = s.split in
    let r : Stands (s.front ++ (part ++ s.back)) (length s.front + j) inner = stands_behind s.front (part ++ s.back) inner j (stands_before part s.back inner j t) in
    let r2 : Stands (s.front ++ (part ++ s.back)) (i + j) inner = subst (λ (n : ℕ). Stands (s.front ++ (part ++ s.back)) (n + j) inner) s.at r in
    subst (λ (x : List A). Stands x (i + j) inner) (sym e) r2

-- what is read there
pub read_at : {A : Type 0} (whole part : List A) (offset n : ℕ) → length part ≡ n → Stands whole offset part → take n (drop offset whole) ≡ part
read_at whole part offset n len s =
    ap (λ x. take n (drop offset x)) s.split ∙ ap (take n) (drop_at s.front (part ++ s.back) offset s.at) ∙ take_at part s.back n len

-- what is cut off in front
pub dropped_stands : {A : Type 0} (whole part : List A) (offset : ℕ) → Stands whole offset part → Stands (drop offset whole) 0 part
dropped_stands {A} whole part offset s =
    let e : drop offset whole ≡ part ++ s.back = ap (drop offset) s.split ∙ drop_at s.front (part ++ s.back) offset s.at in
    subst (λ (x : List A). Stands x 0 part) (sym e) (stands_first part s.back)

-- The i-th piece stands behind the pieces before it.
pub stands_piece : {X A : Type 0} (f : X → List A) (xs : List X) (none : X) (i : ℕ) → i < length xs → Stands (flat_map f xs) (total (map (λ x. length (f x)) (take i xs))) (f (get_or xs i none))
stands_piece f [] none i lt = absurd (omega arith)
stands_piece f (x ∷ xs) none zero lt = rw flat_map-cons (stands_first (f x) (flat_map f xs))
stands_piece f (x ∷ xs) none (suc i) lt = rw flat_map-cons (stands_behind (f x) (flat_map f xs) (f (get_or xs i none)) (total (map (λ x. length (f x)) (take i xs))) (stands_piece f xs none i (omega arith)))
