-- The first argument of a value that is written is read again.
use Rattle.std.proofs.Common.{◌≡◌, ℕ, ◌+◌, ◌*◌, ◌/◌, ◌%◌, ◌^◌, ◌<◌, true, false, List, [], ◌∷◌, ◌++◌, length, take, drop, Some, Ok, refl, sym, ap, subst, ◌∙◌, append_assoc, arith, length-append}
use Rattle.std.specs.Prelude.{nat_lt}
use Rattle.std.specs.List.{flat_map}
use Rattle.std.specs.Str.{is_utf8}
use Rattle.std.proofs.lemmas.Bool.{le-ltb, lt-ltb}
use Rattle.std.proofs.lemmas.List.{take_at, drop_at}
use Rattle.std.proofs.lemmas.List.Concat.{flat_map-cons}
use Rattle.byteorder.specs.Endian.{little_bytes, little_number, big_bytes, big_number}
use Rattle.byteorder.specs.Numbers.{little_number-reads_back, big_number-reads_back}
use Rattle.md_heaps.specs.Integers.{compressed_of, shortest}
use Rattle.md_heaps.specs.Guids.{guid_number}
use Rattle.md_heaps.specs.Reading.{guid_at}
use Rattle.sig_blobs.specs.Attributes.{guid_bytes, argument_bytes, argument_in, first_argument, first_bytes, text_behind, text_bytes, text_in, value_bytes, number_in}
use Rattle.sig_blobs.specs.CanonicalValues.{kind_of, ArgumentFits}
use Rattle.sig_blobs.specs.declared.argument.Argument.{Argument}
use Rattle.sig_blobs.specs.declared.argument.Argument.TheVariants as arguments
use Rattle.sig_blobs.proofs.PathLaws.{path_utf8, path_whole}
use Rattle.sig_blobs.proofs.UseLaws.{ReadsShortest}

number_again : (n : ℕ) (rest : List ℕ) → n < 2 ^ 32 → number_in (little_bytes 4 n ++ rest) ≡ Some (arguments.Number n)
number_again n rest small =
    let long : nat_lt (length (little_bytes 4 n ++ rest)) 4 ≡ false = le-ltb _ _ (omega (arith, length-append (little_bytes 4 n) rest)) in
    let back : little_number 4 (little_bytes 4 n ++ rest) ≡ n = little_number-reads_back 4 n rest small in
    rw (long, back) refl

front_again : (text rest : List ℕ) → first_bytes (length text) (text ++ rest) ≡ Some text
front_again text rest =
    let long : nat_lt (length (text ++ rest)) (length text) ≡ false = le-ltb _ _ (omega (arith, length-append text rest)) in
    rw (long, take_at text rest (length text) refl) refl

behind_again : ReadsShortest → (text rest : List ℕ) → length text < 2 ^ 29 → text_behind (shortest (length text) ++ (text ++ rest)) (compressed_of (shortest (length text) ++ (text ++ rest))) ≡ Some text
behind_again law text rest few = rw (law (length text) (text ++ rest) few, drop_at (shortest (length text)) (text ++ rest) (length (shortest (length text))) refl, front_again text rest) refl

text_again : ReadsShortest → (text rest : List ℕ) → length text < 2 ^ 29 → is_utf8 text ≡ true → text_in (text_bytes text ++ rest) ≡ Some text
text_again law text rest few utf8 =
    let e : (shortest (length text) ++ text) ++ rest ≡ shortest (length text) ++ (text ++ rest) = append_assoc (shortest (length text)) text rest in
    let back : text_behind (text_bytes text ++ rest) (compressed_of (text_bytes text ++ rest)) ≡ Some text = ap (λ (x : List ℕ). text_behind x (compressed_of x)) e ∙ behind_again law text rest few in
    rw (back, utf8) refl

weighed : (a b c d e f g h : ℕ) → a ≡ e → b ≡ f → c ≡ g → d ≡ h → a * 2 ^ 96 + b * 2 ^ 80 + c * 2 ^ 64 + d ≡ e * 2 ^ 96 + f * 2 ^ 80 + g * 2 ^ 64 + h
weighed a b c d e f g h p q r s = rw (p, q, r, s) refl

number_of_parts : (a b c d : ℕ) → a < 2 ^ 32 → b < 2 ^ 16 → c < 2 ^ 16 → d < 2 ^ 64 → guid_number (little_bytes 4 a ++ little_bytes 2 b ++ little_bytes 2 c ++ big_bytes 8 d) ≡ a * 2 ^ 96 + b * 2 ^ 80 + c * 2 ^ 64 + d
number_of_parts a b c d first second third fourth =
    let all : List ℕ = little_bytes 4 a ++ little_bytes 2 b ++ little_bytes 2 c ++ big_bytes 8 d in
    let one : little_number 4 all ≡ a = little_number-reads_back 4 a (little_bytes 2 b ++ (little_bytes 2 c ++ big_bytes 8 d)) first in
    let two : little_number 2 (drop 4 all) ≡ b = little_number-reads_back 2 b (little_bytes 2 c ++ big_bytes 8 d) second in
    let three : little_number 2 (drop 6 all) ≡ c = little_number-reads_back 2 c (big_bytes 8 d) third in
    let four : big_number 8 (drop 8 all) ≡ d = big_number-reads_back 8 d [] fourth in
    weighed _ _ _ _ a b c d one two three four

guid_again : (all rest : List ℕ) → length all ≡ 16 → guid_at (all ++ rest) 1 ≡ Ok (guid_number all)
guid_again all rest sixteen =
    let long : nat_lt 16 (length (all ++ rest) + 1) ≡ true = lt-ltb _ _ (omega (arith, length-append all rest, sixteen)) in
    let cut : take 16 (all ++ rest) ≡ all = take_at all rest 16 sixteen in
    let found : guid_at (all ++ rest) 1 ≡ Ok (guid_number (take 16 (all ++ rest))) = rw long refl in
    found ∙ ap (λ (x : List ℕ). Ok (guid_number x)) cut

sum_again : (id : ℕ) → id / 2 ^ 96 * 2 ^ 96 + id / 2 ^ 80 % 2 ^ 16 * 2 ^ 80 + id / 2 ^ 64 % 2 ^ 16 * 2 ^ 64 + id % 2 ^ 64 ≡ id
sum_again id = omega arith

id_again : (id : ℕ) (rest : List ℕ) → id < 2 ^ 128 → guid_at (guid_bytes id ++ rest) 1 ≡ Ok id
id_again id rest small =
    let number : guid_number (guid_bytes id) ≡ id = number_of_parts (id / 2 ^ 96) (id / 2 ^ 80 % 2 ^ 16) (id / 2 ^ 64 % 2 ^ 16) (id % 2 ^ 64) (omega arith) (omega arith) (omega arith) (omega arith) ∙ sum_again id in
    guid_again (guid_bytes id) rest refl ∙ ap (λ n. Ok n) number

pub argument_again : ReadsShortest → (argument : Argument) (rest : List ℕ) → ArgumentFits argument → argument_in (kind_of argument) (argument_bytes argument ++ rest) ≡ Some argument
argument_again law (arguments.Number n) rest h = number_again n rest h
argument_again law (arguments.Words text) rest h = rw (text_again law text rest h.1 h.0) refl
argument_again law (arguments.TypeName name) rest h = rw (text_again law name rest h.1 (path_utf8 name h.0), path_whole name h.0, h.0) refl
argument_again law (arguments.Id id) rest h = rw (id_again id rest h) refl

pub value_again : ReadsShortest → (argument : Argument) (args : List Argument) → ArgumentFits argument → first_argument (kind_of argument) (value_bytes (argument ∷ args)) ≡ Ok argument
value_again law argument args h =
    let more : List ℕ = flat_map argument_bytes args in
    let e : flat_map argument_bytes (argument ∷ args) ++ 0 ∷ 0 ∷ [] ≡ argument_bytes argument ++ (more ++ 0 ∷ 0 ∷ []) =
    ap (λ (x : List ℕ). x ++ 0 ∷ 0 ∷ []) (flat_map-cons argument_bytes argument args) ∙ append_assoc (argument_bytes argument) more (0 ∷ 0 ∷ []) in
    subst (λ (x : List ℕ). first_argument (kind_of argument) (1 ∷ 0 ∷ x) ≡ Ok argument) (sym e) (rw (argument_again law argument (more ++ 0 ∷ 0 ∷ []) h) refl)
