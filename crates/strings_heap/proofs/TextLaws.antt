-- Where a text begins, by what stands behind.
use Rattle.std.proofs.Common.{◌≡◌, ℕ, zero, suc, ◌+◌, ◌<◌, ◌≤◌, Bool, true, false, cond, not, eqb, List, [], ◌∷◌, ◌++◌, length, get_or, take, drop, Option, Some, None, refl, sym, ap, subst, ◌∙◌, arith, inl, inr, length-append, append-nil, take-append-drop, length-take-le, take-take, take_at}
use Rattle.std.specs.List.{position_or_len}
use Rattle.std.specs.Str.{IsUtf8, is_utf8, continuation_len}
use Rattle.std.specs.Char.{IsScalar}
use lib.Utf8.{scalar, scalars, encode, encodes, scalar_cases, low_scalar}
use Rattle.std.proofs.str.Laws as laws
use Rattle.std.proofs.lemmas.Bool.{cases_lt, and_parts, ne_eqb}
use Rattle.std.proofs.lemmas.Grind.{get_or_default_zero}
use Rattle.std.proofs.lemmas.List.{nil_from_length}
use Rattle.std.proofs.lemmas.Str.{IsUtf8-nil, IsUtf8-append, IsUtf8-encode, IsUtf8-past_char, IsUtf8-from_is_utf8, is_utf8-from_IsUtf8, encode_ascii, inside_one, byte_from_char}
use Rattle.md_heaps.specs.Reading.{until_zero, longer}
use Rattle.md_heaps.specs.Texts.{HasNoZero}
use Rattle.strings_heap.specs.Texts.{begins_text, is_ended_text}

same_tests : (a b : Bool) → (a ≡ true → b ≡ true) → (b ≡ true → a ≡ true) → a ≡ b
same_tests true b f g = sym (f refl)
same_tests false true f g = g refl
same_tests false false f g = refl

-- ---- what stands before the first zero

abbrev onto : List ℕ → Option (List ℕ) → Option (List ℕ)
onto xs None = None
onto xs (Some text) = Some (xs ++ text)

onto_nothing : (o : Option (List ℕ)) → o ≡ onto [] o
onto_nothing None = refl
onto_nothing (Some text) = refl

onto_more : (b : ℕ) (xs : List ℕ) (o : Option (List ℕ)) → longer b (onto xs o) ≡ onto (b ∷ xs) o
onto_more b xs None = refl
onto_more b xs (Some text) = refl

after_first : (b : ℕ) (bytes : List ℕ) → HasNoZero (b ∷ bytes) → HasNoZero bytes
after_first b bytes h k d below = h (suc k) d (omega (arith, below))

until_zero-append : (xs ys : List ℕ) → HasNoZero xs → until_zero (xs ++ ys) ≡ onto xs (until_zero ys)
until_zero-append [] ys h = onto_nothing (until_zero ys)
until_zero-append (zero ∷ xs) ys h = absurd (h 0 0 (omega arith) refl)
until_zero-append (suc b ∷ xs) ys h = ap (longer (suc b)) (until_zero-append xs ys (after_first (suc b) xs h)) ∙ onto_more (suc b) xs (until_zero ys)

abbrev pub is_zero : ℕ → Bool
is_zero b = eqb b 0

pub position_more : (b : ℕ) (bytes : List ℕ) → 0 < b → position_or_len is_zero (b ∷ bytes) ≡ 1 + position_or_len is_zero bytes
position_more b bytes some =
    let test : eqb b 0 ≡ false = ne_eqb b 0 (λ e. omega (arith, e, some)) in
    ap (λ (t : Bool). cond (not t) (1 + position_or_len is_zero bytes) 0) test

-- the text, by the place of the first zero
pub record Stands (bytes text : List ℕ) : Type 0 where
  pub count : position_or_len is_zero bytes ≡ length text
  pub front : take (length text) bytes ≡ text
  pub within : length text < length bytes

pub until_stands : (bytes text : List ℕ) → until_zero bytes ≡ Some text → Stands bytes text
until_stands [] text h = absurd cc
until_stands (zero ∷ bytes) [] h = record { count = refl; front = refl; within = omega arith }
until_stands (zero ∷ bytes) (b ∷ text) h = absurd cc
until_stands (suc b ∷ bytes) text h = by (until_zero bytes) refl (λ more e. until_stands bytes more e) h
  where
    by : (o : Option (List ℕ)) → until_zero bytes ≡ o → ((more : List ℕ) → until_zero bytes ≡ Some more → Stands bytes more) → longer (suc b) o ≡ Some text → Stands (suc b ∷ bytes) text
    by None e further l = absurd cc
    by (Some more) e further l =
        let is : suc b ∷ more ≡ text = cc in
        let inner = further more e in
        subst (λ (t : List ℕ). Stands (suc b ∷ bytes) t) is (record {
          count = omega (arith, position_more (suc b) bytes (omega arith), inner.count);
          front = ap (λ (x : List ℕ). suc b ∷ x) inner.front;
          within = omega (arith, inner.within);
        })

-- where a text begins, there is one
pub record Begun (bytes : List ℕ) : Type 0 where
  pub text : List ℕ
  pub is : until_zero bytes ≡ Some text
  pub utf8 : IsUtf8 text

pub begun : (bytes : List ℕ) → begins_text bytes ≡ true → Begun bytes
begun bytes h = by (until_zero bytes) refl h
  where
    by : (o : Option (List ℕ)) → until_zero bytes ≡ o → is_ended_text o ≡ true → Begun bytes
    by None e t = absurd cc
    by (Some text) e t = record { text = text; is = e; utf8 = IsUtf8-from_is_utf8 text t }

-- ---- a step over one character

no_zero : (c : ℕ) → 0 < c → HasNoZero (encode c)
no_zero c some k d below e =
    let low : get_or (encode c) k 0 ≡ 0 = sym (get_or_default_zero (encode c) k d below) ∙ e in
    let is : c ≡ get_or (encode c) k 0 = inside_one c [] (encode c) k (sym (append-nil (encode c))) below (omega (arith, low)) in
    absurd (omega (arith, is, low, some))

pub begins_text-char : (c : ℕ) (rest : List ℕ) → IsScalar c → 0 < c → begins_text (encode c ++ rest) ≡ begins_text rest
begins_text-char c rest s some = ap is_ended_text (until_zero-append (encode c) rest (no_zero c some)) ∙ by (until_zero rest)
  where
    by : (o : Option (List ℕ)) → is_ended_text (onto (encode c) o) ≡ is_ended_text o
    by None = refl
    by (Some text) = same_tests (is_utf8 (encode c ++ text)) (is_utf8 text)
        (λ u. is_utf8-from_IsUtf8 text (IsUtf8-past_char (encode c ++ text) text c (IsUtf8-from_is_utf8 (encode c ++ text) u) refl))
        (λ u. is_utf8-from_IsUtf8 (encode c ++ text) (IsUtf8-append (encode c) text (IsUtf8-encode c s) (IsUtf8-from_is_utf8 text u)))

-- a zero ends the empty text
pub begins_text-zero : (bytes : List ℕ) → begins_text (0 ∷ bytes) ≡ true
begins_text-zero bytes = is_utf8-from_IsUtf8 [] IsUtf8-nil

pub begins_text-ascii : (b : ℕ) (bytes : List ℕ) → 0 < b → b < 128 → begins_text (b ∷ bytes) ≡ begins_text bytes
begins_text-ascii b bytes some low =
    ap (λ (x : List ℕ). begins_text (x ++ bytes)) (sym (encode_ascii b low)) ∙ begins_text-char b bytes (low_scalar b (omega arith)) some

-- ---- a character of more than one byte

-- its first byte says how many bytes it has
size_is : (c : ℕ) (rest : List ℕ) → laws.Shape c → length (encode c) ≡ continuation_len (get_or (encode c ++ rest) 0 0) + 1
size_is c rest (laws.of1 h e) =
    let test : continuation_len c ≡ 0 = grind arith in
    ap length e ∙ sym (ap (λ (p : List ℕ). continuation_len (get_or (p ++ rest) 0 0) + 1) e ∙ ap (λ (n : ℕ). n + 1) test)
size_is c rest (laws.of2 a b l h f s e) =
    let test : continuation_len a ≡ 1 = grind arith in
    ap length e ∙ sym (ap (λ (p : List ℕ). continuation_len (get_or (p ++ rest) 0 0) + 1) e ∙ ap (λ (n : ℕ). n + 1) test)
size_is c rest (laws.of3 a b d l h f g s e) =
    let test : continuation_len a ≡ 2 = grind arith in
    ap length e ∙ sym (ap (λ (p : List ℕ). continuation_len (get_or (p ++ rest) 0 0) + 1) e ∙ ap (λ (n : ℕ). n + 1) test)
size_is c rest (laws.of4 a b d x l h f g k s e) =
    let test : continuation_len a ≡ 3 = grind arith in
    ap length e ∙ sym (ap (λ (p : List ℕ). continuation_len (get_or (p ++ rest) 0 0) + 1) e ∙ ap (λ (n : ℕ). n + 1) test)

-- a text that isn't empty, as its first character and the others
record First (bytes : List ℕ) : Type 0 where
  char : ℕ
  rest : List ℕ
  valid : IsScalar char
  split : bytes ≡ encode char ++ rest
  size : length (encode char) ≡ continuation_len (get_or bytes 0 0) + 1

first_of : (bytes : List ℕ) → IsUtf8 bytes → 0 < length bytes → First bytes
first_of bytes u some = by u.0 u.1.0 u.1.1
  where
    by : (cs : List ℕ) → scalars cs ≡ true → encodes cs ≡ bytes → First bytes
    by [] s e = absurd (omega (arith, ap length e, some))
    by (c ∷ cs) s e =
        let each = and_parts (scalar c) (scalars cs) s in
        record {
          char = c;
          rest = encodes cs;
          valid = each.0;
          split = sym e;
          size = size_is c (encodes cs) (laws.shape c (scalar_cases c each.0)) ∙ ap (λ (x : List ℕ). continuation_len (get_or x 0 0) + 1) e;
        }

-- where a text begins with a byte, the character that the byte begins is there
pub begins_text-whole : (bytes : List ℕ) (size : ℕ) → size ≡ continuation_len (get_or bytes 0 0) + 1 → 0 < get_or bytes 0 0
    → begins_text bytes ≡ true → (size ≤ length bytes) × IsUtf8 (take size bytes)
begins_text-whole [] size is some h = absurd (omega (arith, some))
begins_text-whole (b ∷ bytes) size is some h =
    let there = begun (b ∷ bytes) h in
    let stands = until_stands (b ∷ bytes) there.text there.is in
    let long : 0 < length there.text = omega (arith, stands.count, position_more b bytes some) in
    let lead : get_or there.text 0 0 ≡ b = ap (λ (x : List ℕ). get_or x 0 0) (sym stands.front) ∙ lead_taken b bytes (length there.text) long in
    let first = first_of there.text there.utf8 long in
    let wide : length (encode first.char) ≡ size = first.size ∙ ap (λ (n : ℕ). continuation_len n + 1) lead ∙ sym is in
    let fits : size ≤ length there.text = omega (arith, wide, ap length first.split, length-append (encode first.char) first.rest) in
    let front : take size (b ∷ bytes) ≡ encode first.char =
    sym (take-take size (length there.text) (b ∷ bytes) fits) ∙ ap (take size) (stands.front ∙ first.split) ∙ take_at (encode first.char) first.rest size wide in
    (omega (arith, fits, stands.within), subst IsUtf8 (sym front) (IsUtf8-encode first.char first.valid))
  where
    lead_taken : (b : ℕ) (bytes : List ℕ) (n : ℕ) → 0 < n → get_or (take n (b ∷ bytes)) 0 0 ≡ b
    lead_taken b bytes zero l = absurd (omega arith)
    lead_taken b bytes (suc n) l = refl

-- and where the character is there, what stands behind it decides
pub begins_text-wide : (bytes : List ℕ) (size : ℕ) → size ≡ continuation_len (get_or bytes 0 0) + 1 → 128 ≤ get_or bytes 0 0
    → size ≤ length bytes → IsUtf8 (take size bytes) → begins_text bytes ≡ begins_text (drop size bytes)
begins_text-wide bytes size is wide fits u =
    let front : List ℕ = take size bytes in
    let long : length front ≡ size = length-take-le size bytes fits in
    let lead : get_or front 0 0 ≡ get_or bytes 0 0 = lead_taken bytes size (omega (arith, is)) in
    let first = first_of front u (omega (arith, long, is)) in
    let same : length (encode first.char) ≡ size = first.size ∙ ap (λ (n : ℕ). continuation_len n + 1) lead ∙ sym is in
    let alone : first.rest ≡ [] = nil_from_length first.rest (omega (arith, ap length first.split, length-append (encode first.char) first.rest, long, same)) in
    let char : front ≡ encode first.char = first.split ∙ ap (λ (x : List ℕ). encode first.char ++ x) alone ∙ append-nil (encode first.char) in
    let split : bytes ≡ encode first.char ++ drop size bytes = sym (take-append-drop size bytes) ∙ ap (λ (x : List ℕ). x ++ drop size bytes) char in
    let high : 128 ≤ first.char =
    elim (cases_lt first.char 128) [
      | inl low ↦ absurd (omega (arith, byte_from_char front first.rest first.char first.split low, lead, wide, low))
      | inr h ↦ h
    ] in
    ap begins_text split ∙ begins_text-char first.char (drop size bytes) first.valid (omega (arith, high))
  where
    lead_taken : (bytes : List ℕ) (n : ℕ) → 0 < n → get_or (take n bytes) 0 0 ≡ get_or bytes 0 0
    lead_taken [] zero l = refl
    lead_taken [] (suc n) l = refl
    lead_taken (b ∷ bytes) zero l = absurd (omega arith)
    lead_taken (b ∷ bytes) (suc n) l = refl
