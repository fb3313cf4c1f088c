-- The number of arguments at the end of a template's name.
use Rattle.std.proofs.Common.{◌≡◌, ◌≢◌, ℕ, ◌+◌, ◌-◌, false, true, length, take, drop, List, ◌++◌, Option, Some, None, Bor, refl, sym, ap, ◌∙◌, arith}
use Rattle.std.specs.Prelude.{bytes_eq, option_map, MatchOption}
use Rattle.std.specs.Fmt.{digits, decimal}
use Rattle.std.specs.Str.Pattern.{FindsTextSuffix}
use Rattle.std.proofs.lemmas.Bool.{false_from_ne_true}
use Rattle.std.proofs.lemmas.List.{take-append-drop, drop_at, length-take-le}
use Rattle.std.proofs.lemmas.Slice.Eq.{bytes_eq-Decides}
use Rattle.sig_blobs.specs.Templates.{decimal_of}
use Rattle.sig_blobs.specs.Uses.{stripped}

pub decimal_is : (n : ℕ) → decimal n ≡ decimal_of n
unfolding decimal_of digits
decimal_is n = refl

ends : (end text : List ℕ) → text ≡ take (length text - length end) text ++ end → bytes_eq (drop (length text - length end) text) end ≡ true
ends end text is =
    let k : ℕ = length text - length end in
    let size : length (take k text) ≡ k = length-take-le k text (omega arith) in
    let same : drop k text ≡ end = ap (drop k) is ∙ drop_at (take k text) end k size in
    (bytes_eq-Decides (drop k text) end).1 same

lacks : (end text : List ℕ) → ((front : List ℕ) → text ≢ front ++ end) → bytes_eq (drop (length text - length end) text) end ≡ false
lacks end text none =
    let k : ℕ = length text - length end in
    false_from_ne_true _ (λ t. none (take k text) (sym (take-append-drop k text) ∙ ap (λ (x : List ℕ). take k text ++ x) ((bytes_eq-Decides (drop k text) end).0 t)))

pub stripped_is : (end text : List ℕ) (r : Option (Bor (List ℕ)))
    → MatchOption r ((front : List ℕ) → text ≢ front ++ end) (λ x. (n : ℕ) × FindsTextSuffix end text (Some n) × (x.now ≡ take (length text - n) text) × (length x.now + n ≡ length text))
    → option_map (λ x. x.now) r ≡ stripped end text
stripped_is end text None h = rw (lacks end text h) refl
stripped_is end text (Some x) h =
    let size : h.0 ≡ length end = h.1.0 in
    let is : text ≡ take (length text - length end) text ++ end = rw size at h.1.1 in
    let cut : x.now ≡ take (length text - length end) text = rw size at h.2 in
    rw (ends end text is) (ap (λ xs. Some xs) cut)
