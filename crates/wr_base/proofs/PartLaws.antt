-- The parts of a text before and behind its last mark.
use Rattle.std.proofs.Common.{◌≡◌, ℕ, suc, ◌<◌, ◌≤◌, Bool, true, false, ◌||◌, cond, eqb, leb, List, [], ◌∷◌, ◌++◌, length, take, drop, get_or, count_by, refl, sym, ap, ◌∙◌, arith, eq-eqb, inl, inr}
use Rattle.std.specs.Prelude.{◌==◌, ◌⊎◌}
use Rattle.std.specs.List.{list_all}
use Rattle.std.specs.Str.{NoCharPasses}
use Rattle.std.specs.Str.Pattern.{RFindsChar, SplitsAroundMatch, HasCharAt}
use Rattle.std.proofs.Math.Bool.{or-true}
use Rattle.std.proofs.lemmas.Bool.{ne_eqb, eqb-true, and_parts, leb-true}
use Rattle.std.proofs.lemmas.List.{take-append-drop}
use Rattle.std.proofs.lemmas.List.Folds.{list_any-append}
use Rattle.std.proofs.lemmas.List.Splits.{length-slice_split}
use Rattle.std.proofs.lemmas.Str.Pattern.{NoCharPasses-char, drop_at_char}
use Rattle.wr_base.specs.Parts.{has, up_to_last, before_last, behind_last}
use Rattle.wr_base.specs.Paths.{is_identifier, parts_of, is_path}

-- ---- no mark

pub none_up : (mark : ℕ) (bs : List ℕ) → has mark bs ≡ false → up_to_last mark bs ≡ []
none_up mark [] h = refl
none_up mark (b ∷ bs) h = ap (λ t. cond t (b ∷ up_to_last mark bs) []) h

pub none_behind : (mark : ℕ) (bs : List ℕ) → has mark bs ≡ false → behind_last mark bs ≡ bs
none_behind mark [] h = refl
none_behind mark (b ∷ bs) h = ap (λ t. cond t (behind_last mark bs) (b ∷ bs)) h

none_of_or : (a b : Bool) → (a || b) ≡ false → (a ≡ false) × (b ≡ false)
none_of_or true b h = absurd cc
none_of_or false b h = (refl, h)

pub none_before : (mark : ℕ) (bs : List ℕ) → has mark bs ≡ false → before_last mark bs ≡ []
none_before mark [] h = refl
none_before mark (b ∷ bs) h = ap (λ t. cond t (b ∷ before_last mark bs) []) (none_of_or (eqb b mark) (has mark bs) h).1

-- ---- around the last mark

has_at : (mark : ℕ) (xs ys : List ℕ) → has mark (xs ++ mark ∷ ys) ≡ true
has_at mark [] ys = ap (λ t. t || has mark ys) (eq-eqb mark mark refl)
has_at mark (x ∷ xs) ys = ap (λ t. eqb x mark || t) (has_at mark xs ys) ∙ or-true (eqb x mark)

pub split_up : (mark : ℕ) (xs ys : List ℕ) → has mark ys ≡ false → up_to_last mark (xs ++ mark ∷ ys) ≡ xs ++ mark ∷ []
split_up mark [] ys h = ap (λ t. cond t (mark ∷ up_to_last mark ys) []) (has_at mark [] ys) ∙ ap (λ t. mark ∷ t) (none_up mark ys h)
split_up mark (x ∷ xs) ys h =
    ap (λ t. cond t (x ∷ up_to_last mark (xs ++ mark ∷ ys)) []) (has_at mark (x ∷ xs) ys) ∙ ap (λ t. x ∷ t) (split_up mark xs ys h)

pub split_before : (mark : ℕ) (xs ys : List ℕ) → has mark ys ≡ false → before_last mark (xs ++ mark ∷ ys) ≡ xs
split_before mark [] ys h = ap (λ t. cond t (mark ∷ before_last mark ys) []) h
split_before mark (x ∷ xs) ys h =
    ap (λ t. cond t (x ∷ before_last mark (xs ++ mark ∷ ys)) []) (has_at mark xs ys) ∙ ap (λ t. x ∷ t) (split_before mark xs ys h)

pub split_behind : (mark : ℕ) (xs ys : List ℕ) → has mark ys ≡ false → behind_last mark (xs ++ mark ∷ ys) ≡ ys
split_behind mark [] ys h = ap (λ t. cond t (behind_last mark ys) (mark ∷ ys)) (has_at mark [] ys) ∙ none_behind mark ys h
split_behind mark (x ∷ xs) ys h =
    ap (λ t. cond t (behind_last mark (xs ++ mark ∷ ys)) (x ∷ (xs ++ mark ∷ ys))) (has_at mark (x ∷ xs) ys) ∙ split_behind mark xs ys h

pub none_has : (mark : ℕ) (bs : List ℕ) → ((i : ℕ) → i < length bs → get_or bs i 0 ≡ mark → ⊥) → has mark bs ≡ false
none_has mark [] h = refl
none_has mark (b ∷ bs) h =
    both_false (eqb b mark) (has mark bs) (ne_eqb b mark (h 0 (omega arith))) (none_has mark bs (λ i l. h (suc i) (omega arith)))
  where
    both_false : (a c : Bool) → a ≡ false → c ≡ false → (a || c) ≡ false
    both_false a c p q = ap (λ t. t || c) p ∙ q

pub either : (d : Bool) → (d ≡ true) ⊎ (d ≡ false)
either true = inl refl
either false = inr refl

or_false : (a : Bool) → (a || false) ≡ a
or_false true = refl
or_false false = refl

-- where there is a mark, what stands before the last one, the mark, and what stands behind it make the text
pub joined_parts : (mark : ℕ) (bs : List ℕ) → has mark bs ≡ true → before_last mark bs ++ mark ∷ behind_last mark bs ≡ bs
joined_parts mark [] h = absurd cc
joined_parts mark (b ∷ bs) h =
    let whole : List ℕ → List ℕ → List ℕ = λ xs ys. xs ++ mark ∷ ys in
    elim (either (has mark bs)) [
      | inl e ↦
          ap (λ t. whole (cond t (b ∷ before_last mark bs) []) (behind_last mark (b ∷ bs))) e
          ∙ ap (λ t. whole (b ∷ before_last mark bs) (cond t (behind_last mark bs) (b ∷ bs))) h
          ∙ ap (λ xs. b ∷ xs) (joined_parts mark bs e)
      | inr e ↦
          let at : eqb b mark ≡ true = sym (or_false (eqb b mark)) ∙ sym (ap (λ t. eqb b mark || t) e) ∙ h in
          ap (λ t. whole (cond t (b ∷ before_last mark bs) []) (behind_last mark (b ∷ bs))) e
          ∙ ap (λ t. whole [] (cond t (behind_last mark bs) (b ∷ bs))) h
          ∙ ap (λ xs. mark ∷ xs) (none_behind mark bs e)
          ∙ ap (λ n. n ∷ bs) (sym (eqb-true b mark at))
    ]

-- ---- one byte more

has_more : (mark b : ℕ) (xs : List ℕ) → eqb b mark ≡ false → has mark (xs ++ b ∷ []) ≡ has mark xs
has_more mark b xs h = list_any-append (λ c. eqb c mark) xs (b ∷ []) ∙ ap (λ t. has mark xs || (t || false)) h ∙ or_false (has mark xs)

pub behind_mark : (mark : ℕ) (xs : List ℕ) → behind_last mark (xs ++ mark ∷ []) ≡ []
behind_mark mark xs = split_behind mark xs [] refl

pub behind_more : (mark b : ℕ) (xs : List ℕ) → eqb b mark ≡ false → behind_last mark (xs ++ b ∷ []) ≡ behind_last mark xs ++ b ∷ []
behind_more mark b [] h = none_behind mark (b ∷ []) (ap (λ t. t || false) h)
behind_more mark b (x ∷ xs) h =
    ap (λ t. cond t (behind_last mark (xs ++ b ∷ [])) (x ∷ (xs ++ b ∷ []))) (ap (λ t. eqb x mark || t) (has_more mark b xs h))
    ∙ ap (λ t. cond (has mark (x ∷ xs)) t (x ∷ (xs ++ b ∷ []))) (behind_more mark b xs h)
    ∙ pushed (has mark (x ∷ xs)) (behind_last mark xs) (x ∷ xs) (b ∷ [])
  where
    pushed : (t : Bool) (us vs ws : List ℕ) → cond t (us ++ ws) (vs ++ ws) ≡ cond t us vs ++ ws
    pushed true us vs ws = refl
    pushed false us vs ws = refl

-- ---- how long the parts are

shorter_or : (t : Bool) (xs ys : List ℕ) (n : ℕ) → length xs ≤ n → length ys ≤ n → length (cond t xs ys) ≤ n
shorter_or true xs ys n h g = h
shorter_or false xs ys n h g = g

pub behind_short : (mark : ℕ) (bs : List ℕ) → length (behind_last mark bs) ≤ length bs
behind_short mark [] = omega arith
behind_short mark (b ∷ bs) = let rest = behind_short mark bs in shorter_or (has mark (b ∷ bs)) (behind_last mark bs) (b ∷ bs) (suc (length bs)) (omega arith) (omega arith)

pub before_short : (mark : ℕ) (bs : List ℕ) → length (before_last mark bs) ≤ length bs
before_short mark [] = omega arith
before_short mark (b ∷ bs) = let rest = before_short mark bs in shorter_or (has mark bs) (b ∷ before_last mark bs) [] (suc (length bs)) (omega arith) (omega arith)

-- ---- a cut at the last mark of a text in UTF-8, where the mark is ASCII

none_passes : (mark : ℕ) (bs : List ℕ) → mark < 128 → NoCharPasses (λ d. d == mark) bs → has mark bs ≡ false
none_passes mark bs low none = none_has mark bs (λ i l. NoCharPasses-char mark bs i none low l)

parts : (mark : ℕ) (bs : List ℕ) (i j : ℕ) → mark < 128 → HasCharAt mark bs i j → bs ≡ take i bs ++ mark ∷ drop j bs
parts mark bs i j low at = sym (take-append-drop i bs) ∙ ap (λ t. take i bs ++ t) (drop_at_char mark bs i j at low)

pub behind_cut : (mark : ℕ) (bs front back : List ℕ) → mark < 128 → SplitsAroundMatch (RFindsChar mark) bs front back → back ≡ behind_last mark bs
behind_cut mark bs front back low (i, j, (none, at), f, b, le, p, q) =
    b ∙ sym (ap (behind_last mark) (parts mark bs i j low at) ∙ split_behind mark (take i bs) (drop j bs) (none_passes mark (drop j bs) low none))

pub before_cut : (mark : ℕ) (bs front back : List ℕ) → mark < 128 → SplitsAroundMatch (RFindsChar mark) bs front back → front ≡ before_last mark bs
before_cut mark bs front back low (i, j, (none, at), f, b, le, p, q) =
    f ∙ sym (ap (before_last mark) (parts mark bs i j low at) ∙ split_before mark (take i bs) (drop j bs) (none_passes mark (drop j bs) low none))

pub up_cut : (mark : ℕ) (bs front back : List ℕ) → mark < 128 → SplitsAroundMatch (RFindsChar mark) bs front back → front ++ mark ∷ [] ≡ up_to_last mark bs
up_cut mark bs front back low (i, j, (none, at), f, b, le, p, q) =
    ap (λ t. t ++ mark ∷ []) f
    ∙ sym (ap (up_to_last mark) (parts mark bs i j low at) ∙ split_up mark (take i bs) (drop j bs) (none_passes mark (drop j bs) low none))

pub behind_uncut : (mark : ℕ) (bs : List ℕ) → mark < 128 → NoCharPasses (λ d. d == mark) bs → bs ≡ behind_last mark bs
behind_uncut mark bs low none = sym (none_behind mark bs (none_passes mark bs low none))

pub before_uncut : (mark : ℕ) (bs : List ℕ) → mark < 128 → NoCharPasses (λ d. d == mark) bs → [] ≡ before_last mark bs
before_uncut mark bs low none = sym (none_before mark bs (none_passes mark bs low none))

pub up_uncut : (mark : ℕ) (bs : List ℕ) → mark < 128 → NoCharPasses (λ d. d == mark) bs → [] ≡ up_to_last mark bs
up_uncut mark bs low none = sym (none_up mark bs (none_passes mark bs low none))

-- ---- paths

none_counted : (bytes : List ℕ) → has 46 bytes ≡ false → count_by (λ b. b == 46) bytes ≡ 0
none_counted [] h = refl
none_counted (b ∷ bytes) h = let n = none_of_or (b == 46) (has 46 bytes) h in rw (n.0, none_counted bytes n.1) refl

-- a full name has a dot
pub path_dot : (full : List ℕ) → is_path full ≡ true → has 46 full ≡ true
path_dot full h =
    let both = and_parts (leb 2 (length (parts_of full))) (list_all is_identifier (parts_of full)) h in
    let two : 2 ≤ length (parts_of full) = leb-true 2 (length (parts_of full)) both.0 in
    elim (either (has 46 full)) [
      | inl e ↦ e
      | inr e ↦ absurd (let none = none_counted full e in let count = length-slice_split (λ b. b == 46) full in omega (arith, none, count))
    ]
