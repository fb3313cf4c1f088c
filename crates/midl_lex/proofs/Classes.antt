-- What the classes say of a byte.
use Rattle.std.proofs.Common.{◌≡◌, ℕ, ◌≤◌, Bool, true, false, cond, ◌&&◌, ◌||◌, eqb, leb, refl, ap, ◌∙◌, arith, inl, inr, ◌⊎◌}
use Rattle.std.proofs.lemmas.Bool.{eqb-true}
use Rattle.std.proofs.lemmas.Bool.Decides.{nat_tests}
use Rattle.midl_lex.specs.declared.scan.ByteClass.TheVariants as classes
use Rattle.midl_lex.specs.Bytes.{is_white, is_letter, is_digit, is_hex, is_x, within}
use Rattle.midl_lex.specs.Scan.{is_mark, class_of}

pub or_case : (a b : Bool) → (a || b) ≡ true → (a ≡ true) ⊎ (b ≡ true)
or_case true b e = inl refl
or_case false b e = inr e

pub and_parts : (a b : Bool) → (a && b) ≡ true → (a ≡ true) × (b ≡ true)
and_parts true b e = (refl, e)
and_parts false b e = absurd cc

pub not_true : (v : Bool) → (v ≡ true → ⊥) → v ≡ false
not_true true h = absurd (h refl)
not_true false h = refl

unlike : (v : Bool) → v ≡ true → v ≡ false → ⊥
unlike v e f = cc

-- ---- from a class

white_chain : (w s l d q m : Bool) → cond w classes.White (cond s classes.Slash (cond l classes.Letter (cond d classes.Digit (cond q classes.Quote (cond m classes.Mark classes.Other))))) ≡ classes.White → w ≡ true
white_chain true s l d q m e = refl
white_chain false true l d q m e = absurd cc
white_chain false false true d q m e = absurd cc
white_chain false false false true q m e = absurd cc
white_chain false false false false true m e = absurd cc
white_chain false false false false false true e = absurd cc
white_chain false false false false false false e = absurd cc

slash_chain : (w s l d q m : Bool) → cond w classes.White (cond s classes.Slash (cond l classes.Letter (cond d classes.Digit (cond q classes.Quote (cond m classes.Mark classes.Other))))) ≡ classes.Slash → s ≡ true
slash_chain true s l d q m e = absurd cc
slash_chain false true l d q m e = refl
slash_chain false false true d q m e = absurd cc
slash_chain false false false true q m e = absurd cc
slash_chain false false false false true m e = absurd cc
slash_chain false false false false false true e = absurd cc
slash_chain false false false false false false e = absurd cc

letter_chain : (w s l d q m : Bool) → cond w classes.White (cond s classes.Slash (cond l classes.Letter (cond d classes.Digit (cond q classes.Quote (cond m classes.Mark classes.Other))))) ≡ classes.Letter → l ≡ true
letter_chain true s l d q m e = absurd cc
letter_chain false true l d q m e = absurd cc
letter_chain false false true d q m e = refl
letter_chain false false false true q m e = absurd cc
letter_chain false false false false true m e = absurd cc
letter_chain false false false false false true e = absurd cc
letter_chain false false false false false false e = absurd cc

digit_chain : (w s l d q m : Bool) → cond w classes.White (cond s classes.Slash (cond l classes.Letter (cond d classes.Digit (cond q classes.Quote (cond m classes.Mark classes.Other))))) ≡ classes.Digit → d ≡ true
digit_chain true s l d q m e = absurd cc
digit_chain false true l d q m e = absurd cc
digit_chain false false true d q m e = absurd cc
digit_chain false false false true q m e = refl
digit_chain false false false false true m e = absurd cc
digit_chain false false false false false true e = absurd cc
digit_chain false false false false false false e = absurd cc

quote_chain : (w s l d q m : Bool) → cond w classes.White (cond s classes.Slash (cond l classes.Letter (cond d classes.Digit (cond q classes.Quote (cond m classes.Mark classes.Other))))) ≡ classes.Quote → q ≡ true
quote_chain true s l d q m e = absurd cc
quote_chain false true l d q m e = absurd cc
quote_chain false false true d q m e = absurd cc
quote_chain false false false true q m e = absurd cc
quote_chain false false false false true m e = refl
quote_chain false false false false false true e = absurd cc
quote_chain false false false false false false e = absurd cc

mark_chain : (w s l d q m : Bool) → cond w classes.White (cond s classes.Slash (cond l classes.Letter (cond d classes.Digit (cond q classes.Quote (cond m classes.Mark classes.Other))))) ≡ classes.Mark → m ≡ true
mark_chain true s l d q m e = absurd cc
mark_chain false true l d q m e = absurd cc
mark_chain false false true d q m e = absurd cc
mark_chain false false false true q m e = absurd cc
mark_chain false false false false true m e = absurd cc
mark_chain false false false false false true e = refl
mark_chain false false false false false false e = absurd cc

pub from_white : (b : ℕ) → class_of b ≡ classes.White → is_white b ≡ true
from_white b e = white_chain (is_white b) (eqb b 47) (is_letter b) (is_digit b) (eqb b 34) (is_mark b) e

pub from_slash : (b : ℕ) → class_of b ≡ classes.Slash → b ≡ 47
from_slash b e = eqb-true b 47 (slash_chain (is_white b) (eqb b 47) (is_letter b) (is_digit b) (eqb b 34) (is_mark b) e)

pub from_letter : (b : ℕ) → class_of b ≡ classes.Letter → is_letter b ≡ true
from_letter b e = letter_chain (is_white b) (eqb b 47) (is_letter b) (is_digit b) (eqb b 34) (is_mark b) e

pub from_digit : (b : ℕ) → class_of b ≡ classes.Digit → is_digit b ≡ true
from_digit b e = digit_chain (is_white b) (eqb b 47) (is_letter b) (is_digit b) (eqb b 34) (is_mark b) e

pub from_quote : (b : ℕ) → class_of b ≡ classes.Quote → b ≡ 34
from_quote b e = eqb-true b 34 (quote_chain (is_white b) (eqb b 47) (is_letter b) (is_digit b) (eqb b 34) (is_mark b) e)

pub from_mark : (b : ℕ) → class_of b ≡ classes.Mark → is_mark b ≡ true
from_mark b e = mark_chain (is_white b) (eqb b 47) (is_letter b) (is_digit b) (eqb b 34) (is_mark b) e

-- ---- to a class

-- a test that fails at each of these bytes
at_white : (p : ℕ → Bool) (b : ℕ) → p 32 ≡ false → p 9 ≡ false → p 13 ≡ false → p 10 ≡ false → is_white b ≡ true → p b ≡ false
at_white p b h32 h9 h13 h10 e = elim (or_case (eqb b 32) (eqb b 9 || (eqb b 13 || (eqb b 10))) e) [ inl a ↦ ap p (eqb-true b 32 a) ∙ h32 | inr a ↦ elim (or_case (eqb b 9) (eqb b 13 || (eqb b 10)) a) [ inl a ↦ ap p (eqb-true b 9 a) ∙ h9 | inr a ↦ elim (or_case (eqb b 13) (eqb b 10) a) [ inl a ↦ ap p (eqb-true b 13 a) ∙ h13 | inr a ↦ ap p (eqb-true b 10 a) ∙ h10 ] ] ]

-- a test that fails at each of these bytes
at_mark : (p : ℕ → Bool) (b : ℕ) → p 123 ≡ false → p 125 ≡ false → p 40 ≡ false → p 41 ≡ false → p 91 ≡ false → p 93 ≡ false → p 60 ≡ false → p 62 ≡ false → p 44 ≡ false → p 59 ≡ false → p 58 ≡ false → p 46 ≡ false → p 61 ≡ false → p 45 ≡ false → is_mark b ≡ true → p b ≡ false
at_mark p b h123 h125 h40 h41 h91 h93 h60 h62 h44 h59 h58 h46 h61 h45 e = elim (or_case (eqb b 123) (eqb b 125 || (eqb b 40 || (eqb b 41 || (eqb b 91 || (eqb b 93 || (eqb b 60 || (eqb b 62 || (eqb b 44 || (eqb b 59 || (eqb b 58 || (eqb b 46 || (eqb b 61 || (eqb b 45))))))))))))) e) [ inl a ↦ ap p (eqb-true b 123 a) ∙ h123 | inr a ↦ elim (or_case (eqb b 125) (eqb b 40 || (eqb b 41 || (eqb b 91 || (eqb b 93 || (eqb b 60 || (eqb b 62 || (eqb b 44 || (eqb b 59 || (eqb b 58 || (eqb b 46 || (eqb b 61 || (eqb b 45)))))))))))) a) [ inl a ↦ ap p (eqb-true b 125 a) ∙ h125 | inr a ↦ elim (or_case (eqb b 40) (eqb b 41 || (eqb b 91 || (eqb b 93 || (eqb b 60 || (eqb b 62 || (eqb b 44 || (eqb b 59 || (eqb b 58 || (eqb b 46 || (eqb b 61 || (eqb b 45))))))))))) a) [ inl a ↦ ap p (eqb-true b 40 a) ∙ h40 | inr a ↦ elim (or_case (eqb b 41) (eqb b 91 || (eqb b 93 || (eqb b 60 || (eqb b 62 || (eqb b 44 || (eqb b 59 || (eqb b 58 || (eqb b 46 || (eqb b 61 || (eqb b 45)))))))))) a) [ inl a ↦ ap p (eqb-true b 41 a) ∙ h41 | inr a ↦ elim (or_case (eqb b 91) (eqb b 93 || (eqb b 60 || (eqb b 62 || (eqb b 44 || (eqb b 59 || (eqb b 58 || (eqb b 46 || (eqb b 61 || (eqb b 45))))))))) a) [ inl a ↦ ap p (eqb-true b 91 a) ∙ h91 | inr a ↦ elim (or_case (eqb b 93) (eqb b 60 || (eqb b 62 || (eqb b 44 || (eqb b 59 || (eqb b 58 || (eqb b 46 || (eqb b 61 || (eqb b 45)))))))) a) [ inl a ↦ ap p (eqb-true b 93 a) ∙ h93 | inr a ↦ elim (or_case (eqb b 60) (eqb b 62 || (eqb b 44 || (eqb b 59 || (eqb b 58 || (eqb b 46 || (eqb b 61 || (eqb b 45))))))) a) [ inl a ↦ ap p (eqb-true b 60 a) ∙ h60 | inr a ↦ elim (or_case (eqb b 62) (eqb b 44 || (eqb b 59 || (eqb b 58 || (eqb b 46 || (eqb b 61 || (eqb b 45)))))) a) [ inl a ↦ ap p (eqb-true b 62 a) ∙ h62 | inr a ↦ elim (or_case (eqb b 44) (eqb b 59 || (eqb b 58 || (eqb b 46 || (eqb b 61 || (eqb b 45))))) a) [ inl a ↦ ap p (eqb-true b 44 a) ∙ h44 | inr a ↦ elim (or_case (eqb b 59) (eqb b 58 || (eqb b 46 || (eqb b 61 || (eqb b 45)))) a) [ inl a ↦ ap p (eqb-true b 59 a) ∙ h59 | inr a ↦ elim (or_case (eqb b 58) (eqb b 46 || (eqb b 61 || (eqb b 45))) a) [ inl a ↦ ap p (eqb-true b 58 a) ∙ h58 | inr a ↦ elim (or_case (eqb b 46) (eqb b 61 || (eqb b 45)) a) [ inl a ↦ ap p (eqb-true b 46 a) ∙ h46 | inr a ↦ elim (or_case (eqb b 61) (eqb b 45) a) [ inl a ↦ ap p (eqb-true b 61 a) ∙ h61 | inr a ↦ ap p (eqb-true b 45 a) ∙ h45 ] ] ] ] ] ] ] ] ] ] ] ] ]

at_one : (p : ℕ → Bool) (b c : ℕ) → p c ≡ false → eqb b c ≡ true → p b ≡ false
at_one p b c h e = ap p (eqb-true b c e) ∙ h

within_not : (low high b : ℕ) → b ≤ 57 → 58 ≤ low → within low high b ≡ false
within_not low high b h k = not_true (within low high b) (λ e. let p = (and_parts (leb low b) (leb b high) e).0 in let q : low ≤ b = grind (arith, nat_tests) in omega arith)

letter_of_digit : (b : ℕ) → is_digit b ≡ true → is_letter b ≡ false
letter_of_digit b e =
    let p = (and_parts (leb 48 b) (leb b 57) e).1 in
    let q : b ≤ 57 = grind (arith, nat_tests) in
    let x : within 97 122 b ≡ false = within_not 97 122 b q (omega arith) in
    let y : within 65 90 b ≡ false = within_not 65 90 b q (omega arith) in
    let z : eqb b 95 ≡ false = not_true (eqb b 95) (λ f. let g : b ≡ 95 = eqb-true b 95 f in omega arith) in
    rw (x, y, z) refl

pub to_white : (b : ℕ) → is_white b ≡ true → class_of b ≡ classes.White
to_white b e = rw e refl

pub to_letter : (b : ℕ) → is_letter b ≡ true → class_of b ≡ classes.Letter
to_letter b e =
    let w : is_white b ≡ false = not_true (is_white b) (λ h. unlike (is_letter b) e (at_white is_letter b refl refl refl refl h)) in
    let s : eqb b 47 ≡ false = not_true (eqb b 47) (λ h. unlike (is_letter b) e (at_one is_letter b 47 refl h)) in
    rw (w, s, e) refl

pub to_digit : (b : ℕ) → is_digit b ≡ true → class_of b ≡ classes.Digit
to_digit b e =
    let w : is_white b ≡ false = not_true (is_white b) (λ h. unlike (is_digit b) e (at_white is_digit b refl refl refl refl h)) in
    let s : eqb b 47 ≡ false = not_true (eqb b 47) (λ h. unlike (is_digit b) e (at_one is_digit b 47 refl h)) in
    rw (w, s, letter_of_digit b e, e) refl

pub to_mark : (b : ℕ) → is_mark b ≡ true → class_of b ≡ classes.Mark
to_mark b e =
    let w : is_white b ≡ false = at_mark is_white b refl refl refl refl refl refl refl refl refl refl refl refl refl refl e in
    let s : eqb b 47 ≡ false = at_mark (λ c. eqb c 47) b refl refl refl refl refl refl refl refl refl refl refl refl refl refl e in
    let l : is_letter b ≡ false = at_mark is_letter b refl refl refl refl refl refl refl refl refl refl refl refl refl refl e in
    let d : is_digit b ≡ false = at_mark is_digit b refl refl refl refl refl refl refl refl refl refl refl refl refl refl e in
    let q : eqb b 34 ≡ false = at_mark (λ c. eqb c 34) b refl refl refl refl refl refl refl refl refl refl refl refl refl refl e in
    rw (w, s, l, d, q, e) refl

-- an x is no digit

pub no_digit_x : (x : ℕ) → is_x x ≡ true → is_digit x ≡ true → ⊥
no_digit_x x e f = elim (or_case (eqb x 120) (eqb x 88) e) [ inl h ↦ unlike (is_digit x) f (at_one is_digit x 120 refl h) | inr h ↦ unlike (is_digit x) f (at_one is_digit x 88 refl h) ]

pub no_hex_x : (x : ℕ) → is_x x ≡ true → is_hex x ≡ true → ⊥
no_hex_x x e f = elim (or_case (eqb x 120) (eqb x 88) e) [ inl h ↦ unlike (is_hex x) f (at_one is_hex x 120 refl h) | inr h ↦ unlike (is_hex x) f (at_one is_hex x 88 refl h) ]
