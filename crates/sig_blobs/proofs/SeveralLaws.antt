-- One item more of a list that is read, and one level more of a use.
use Rattle.std.proofs.Common.{◌≡◌, ℕ, suc, List, [], ◌∷◌, ◌++◌, map, refl, sym, ap, ◌∙◌, append_assoc, Result, Ok, Err}
use Rattle.std.proofs.lemmas.List.{map-append}
use Rattle.sig_blobs.specs.declared.flaw.Flaw.{Flaw}
use Rattle.sig_blobs.specs.Reading.{Reads, several, ◌>>=◌}
use Rattle.sig_blobs.specs.Several.{behind}
use Rattle.sig_blobs.specs.Uses.{Meanings, Front, unmodified, front_at, completed, use_within}

regroup : {A : Type 0} (front : List A) (x : A) (o : Result (List A × List ℕ) Flaw) → behind front (o >>= λ others. Ok (x ∷ others.0, others.1)) ≡ behind (front ++ x ∷ []) o
regroup front x (Ok p) = ap (λ xs. Ok (xs, p.1)) (sym (append_assoc front (x ∷ []) p.0))
regroup front x (Err e) = refl

one_more : {A : Type 0} (one : Reads A) (front : List A) (left most : ℕ) (x : A) (rest after : List ℕ) (whole : Result (List A × List ℕ) Flaw) → left ≡ suc most → one rest ≡ Ok (x, after)
    → behind front (several one left rest) ≡ whole → behind (front ++ x ∷ []) (several one most after) ≡ whole
one_more one front left most x rest after whole e was so_far = sym (regroup front x (several one most after)) ∙ rw (e, was) at so_far

pub turn : {X A : Type 0} (view : X → A) (one : Reads A) (items new : List X) (left most : ℕ) (x : X) (rest after : List ℕ) (whole : Result (List A × List ℕ) Flaw) → left ≡ suc most → one rest ≡ Ok (view x, after)
    → new ≡ items ++ x ∷ [] → behind (map view items) (several one left rest) ≡ whole → behind (map view new) (several one most after) ≡ whole
turn view one items new left most x rest after whole e was pushed so_far =
    ap (λ xs. behind xs (several one most after)) (ap (map view) pushed ∙ map-append view items (x ∷ [])) ∙ one_more one (map view items) left most (view x) rest after whole e was so_far

-- a use that is at least one deep
pub deeper : (names : Meanings) (depth d : ℕ) (bytes rest : List ℕ) (front : Front) (after : List ℕ) → depth ≡ suc d → unmodified bytes ≡ Ok rest → front_at names rest ≡ Ok (front, after)
    → use_within depth names bytes ≡ completed (use_within d names) front after
unfolding use_within
deeper names depth d bytes rest front after e plain was = rw (e, plain, was) refl
