-- The names of made interfaces are full names.
use Rattle.std.proofs.Common.{◌≡◌, ℕ, ◌+◌, ◌<◌, Bool, true, false, ◌&&◌, ◌||◌, cond, List, [], ◌∷◌, ◌++◌, length, IsTrue, refl, sym, ap, ◌∙◌, arith, inl, inr}
use Rattle.std.specs.Prelude.{◌==◌, nat_le}
use Rattle.std.specs.List.{All, list_all, onto_first}
use Rattle.std.proofs.lemmas.List.{length-append}
use Rattle.std.proofs.lemmas.List.Elements.{All-nil, All-cons}
use Rattle.std.proofs.lemmas.List.Folds.{list_all-append}
use Rattle.std.proofs.lemmas.List.Splits.{slice_split-cons_yes, slice_split-cons_no, length-slice_split, slice_split_none}
use Rattle.wr_base.specs.Paths.{is_identifier, is_path, is_start, is_rest, parts_of}
use Rattle.wr_base.specs.Parts.{has, before_last, behind_last}
use Rattle.wr_base.proofs.PartLaws.{either}
use Rattle.made_interfaces.specs.Made.{made_name}

abbrev is_dot : ℕ → Bool
is_dot b = b == 46

some_part : (xs : List ℕ) → 0 < length (parts_of xs)
some_part xs = omega (arith, length-slice_split is_dot xs)

onto_append : (x : ℕ) (parts more : List (List ℕ)) → 0 < length parts → onto_first x (parts ++ more) ≡ onto_first x parts ++ more
onto_append x [] more l = absurd (omega (arith, l))
onto_append x (part ∷ parts) more l = refl

-- the parts before a dot, and those behind it
parts_around : (xs ys : List ℕ) → parts_of (xs ++ 46 ∷ ys) ≡ parts_of xs ++ parts_of ys
parts_around [] ys = slice_split-cons_yes is_dot 46 ys refl
parts_around (x ∷ xs) ys = elim (either (is_dot x)) [
  | inl e ↦
      slice_split-cons_yes is_dot x (xs ++ 46 ∷ ys) e ∙ ap (λ t. [] ∷ t) (parts_around xs ys)
      ∙ sym (ap (λ t. t ++ parts_of ys) (slice_split-cons_yes is_dot x xs e))
  | inr e ↦
      slice_split-cons_no is_dot x (xs ++ 46 ∷ ys) e ∙ ap (onto_first x) (parts_around xs ys)
      ∙ onto_append x (parts_of xs) (parts_of ys) (some_part xs)
      ∙ sym (ap (λ t. t ++ parts_of ys) (slice_split-cons_no is_dot x xs e))
]

both : (b x : Bool) → (b && x) ≡ true → (b ≡ true) × (x ≡ true)
both true x h = (refl, h)
both false x h = absurd cc

neither : (a b : Bool) → (a || b) ≡ false → (a ≡ false) × (b ≡ false)
neither true b h = absurd cc
neither false b h = (refl, h)

no_dots : (bs : List ℕ) → has 46 bs ≡ false → All (λ b. is_dot b ≡ false) bs
no_dots [] h = All-nil (λ b. is_dot b ≡ false)
no_dots (b ∷ bs) h = let s = neither (is_dot b) (has 46 bs) h in All-cons (λ b. is_dot b ≡ false) b bs s.0 (no_dots bs s.1)

one_part : (bs : List ℕ) → has 46 bs ≡ false → parts_of bs ≡ bs ∷ []
one_part bs h = slice_split_none is_dot bs (no_dots bs h)

no_dot : (b : ℕ) → is_rest b ≡ true → is_dot b ≡ false
no_dot b h = grind arith

no_dot_among : (bs : List ℕ) → list_all is_rest bs ≡ true → has 46 bs ≡ false
no_dot_among [] h = refl
no_dot_among (b ∷ bs) h = let s = both (is_rest b) (list_all is_rest bs) h in ap (λ t. t || has 46 bs) (no_dot b s.0) ∙ no_dot_among bs s.1

start_rest : (b : ℕ) → is_start b ≡ true → is_rest b ≡ true
start_rest b h = ap (λ t. t || (nat_le 48 b && nat_le b 57)) h

all_rest : (bs : List ℕ) → is_identifier bs ≡ true → list_all is_rest bs ≡ true
all_rest [] h = absurd cc
all_rest (b ∷ bs) h = let s = both (is_start b) (list_all is_rest bs) h in ap (λ t. t && list_all is_rest bs) (start_rest b s.0) ∙ s.1

-- nothing behind the last dot is one
pub behind_none : (bs : List ℕ) → has 46 (behind_last 46 bs) ≡ false
behind_none [] = refl
behind_none (b ∷ bs) = elim (either (has 46 (b ∷ bs))) [
  | inl e ↦ ap (λ t. has 46 (cond t (behind_last 46 bs) (b ∷ bs))) e ∙ behind_none bs
  | inr e ↦ ap (λ t. has 46 (cond t (behind_last 46 bs) (b ∷ bs))) e ∙ e
]

joined_and : (a b c : Bool) → (a && (b && (c && true))) ≡ true → (a ≡ true) × (b ≡ true) × (c ≡ true)
joined_and true true true h = (refl, refl, refl)
joined_and true true false h = absurd cc
joined_and true false c h = absurd cc
joined_and false b c h = absurd cc

-- with a last part that is an identifier
ends : (space own : List ℕ) → has 46 own ≡ false → is_path (space ++ 46 ∷ own) ≡ (nat_le 2 (length (parts_of space) + 1) && (list_all is_identifier (parts_of space) && (is_identifier own && true)))
ends space own h =
    let whole : parts_of (space ++ 46 ∷ own) ≡ parts_of space ++ own ∷ [] = parts_around space own ∙ ap (λ t. parts_of space ++ t) (one_part own h) in
    ap (λ ps. nat_le 2 (length ps) && list_all is_identifier ps) whole
    ∙ ap (λ n. nat_le 2 n && list_all is_identifier (parts_of space ++ own ∷ [])) (length-append (parts_of space) (own ∷ []))
    ∙ ap (λ t. nat_le 2 (length (parts_of space) + 1) && t) (list_all-append is_identifier (parts_of space) (own ∷ []))

pub made_path : (space own word : List ℕ) → has 46 own ≡ false → is_path (space ++ 46 ∷ own) ≡ true → list_all is_rest word ≡ true → is_path (space ++ 46 ∷ 73 ∷ (own ++ word)) ≡ true
made_path space own word none path rest =
    let s = joined_and (nat_le 2 (length (parts_of space) + 1)) (list_all is_identifier (parts_of space)) (is_identifier own) (sym (ends space own none) ∙ path) in
    let letters : list_all is_rest (own ++ word) ≡ true = list_all-append is_rest own word ∙ ap (λ t. t && list_all is_rest word) (all_rest own s.2) ∙ rest in
    ends space (73 ∷ (own ++ word)) (no_dot_among (own ++ word) letters)
    ∙ ap (λ t. t && (list_all is_identifier (parts_of space) && (list_all is_rest (own ++ word) && true))) s.0
    ∙ ap (λ t. t && (list_all is_rest (own ++ word) && true)) s.1
    ∙ ap (λ t. t && true) letters

-- what is made of a full name is one
pub made_is_path : (class word : List ℕ) → IsTrue (is_path class) → before_last 46 class ++ 46 ∷ behind_last 46 class ≡ class → IsTrue (list_all is_rest word) → IsTrue (is_path (made_name class word))
made_is_path class word path joined rest = made_path (before_last 46 class) (behind_last 46 class) word (behind_none class) (ap is_path joined ∙ path) rest

-- the same of a name that is spelled of its parts
pub spelled_path : (class word space own text : List ℕ) → space ≡ before_last 46 class → own ≡ behind_last 46 class → text ≡ space ++ 46 ∷ 73 ∷ (own ++ word)
    → IsTrue (is_path class) → space ++ 46 ∷ own ≡ class → IsTrue (list_all is_rest word) → IsTrue (is_path text)
spelled_path class word space own text s o spelled path joined rest =
    let whole : text ≡ made_name class word = spelled ∙ ap (λ t. t ++ 46 ∷ 73 ∷ (own ++ word)) s ∙ ap (λ t. before_last 46 class ++ 46 ∷ 73 ∷ (t ++ word)) o in
    ap is_path whole ∙ made_is_path class word path (sym (ap (λ t. t ++ 46 ∷ own) s ∙ ap (λ t. before_last 46 class ++ 46 ∷ t) o) ∙ joined) rest
