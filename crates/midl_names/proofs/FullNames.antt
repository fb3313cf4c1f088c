-- Identifiers joined by dots are a path.
use Rattle.std.proofs.Common.{◌≡◌, ℕ, ◌+◌, ◌<◌, Bool, true, false, ◌&&◌, ◌==◌, nat_le, List, [], ◌∷◌, ◌++◌, length, IsTrue, refl, ap, ◌∙◌, arith, append_assoc}
use Rattle.std.specs.List.{All, list_all}
use Rattle.std.proofs.lemmas.List.Splits.{slice_split_at, slice_split_none}
use Rattle.std.proofs.lemmas.List.Elements.{All-nil, All-cons, All-head, All-tail}
use Rattle.std.proofs.lemmas.Bool.{le-leb}
use Rattle.wr_base.specs.Paths.{is_identifier, is_path, is_start, is_rest, parts_of}
use Rattle.midl_names.specs.Items.{prefix}

both : (b x : Bool) → (b && x) ≡ true → (b ≡ true) × (x ≡ true)
both true x h = (refl, h)
both false x h = absurd cc

no_dot : (b : ℕ) → is_rest b ≡ true → (b == 46) ≡ false
no_dot b h = grind arith

start_no_dot : (b : ℕ) → is_start b ≡ true → (b == 46) ≡ false
start_no_dot b h = grind arith

rest_no_dots : (bs : List ℕ) → list_all is_rest bs ≡ true → All (λ b. (b == 46) ≡ false) bs
rest_no_dots [] h = All-nil (λ b. (b == 46) ≡ false)
rest_no_dots (b ∷ bs) h = let s = both (is_rest b) (list_all is_rest bs) h in All-cons (λ b. (b == 46) ≡ false) b bs (no_dot b s.0) (rest_no_dots bs s.1)

no_dots : (bs : List ℕ) → is_identifier bs ≡ true → All (λ b. (b == 46) ≡ false) bs
no_dots [] h = absurd cc
no_dots (b ∷ bs) h = let s = both (is_start b) (list_all is_rest bs) h in All-cons (λ b. (b == 46) ≡ false) b bs (start_no_dot b s.0) (rest_no_dots bs s.1)

abbrev pub IsIdent : List ℕ → Type 0
IsIdent part = IsTrue (is_identifier part)

joined : (part : List ℕ) (space : List (List ℕ)) (name : List ℕ) → prefix (part ∷ space) ++ name ≡ part ++ 46 ∷ (prefix space ++ name)
joined part space name = simp append_assoc

split : (space : List (List ℕ)) (name : List ℕ) → All IsIdent space → IsIdent name → parts_of (prefix space ++ name) ≡ space ++ name ∷ []
split [] name each last = slice_split_none (λ b. b == 46) name (no_dots name last)
split (part ∷ space) name each last =
    ap parts_of (joined part space name)
    ∙ slice_split_at (λ b. b == 46) part 46 (prefix space ++ name) (no_dots part (All-head IsIdent part space each)) refl
    ∙ ap (λ (u : List (List ℕ)). part ∷ u) (split space name (All-tail IsIdent part space each) last)

all_named : (space : List (List ℕ)) (name : List ℕ) → All IsIdent space → IsIdent name → list_all is_identifier (space ++ name ∷ []) ≡ true
all_named [] name each last = rw last refl
all_named (part ∷ space) name each last =
    let first : is_identifier part ≡ true = All-head IsIdent part space each in
    rw (first, all_named space name (All-tail IsIdent part space each) last) refl

long_enough : (space : List (List ℕ)) (name : List ℕ) → length (space ++ name ∷ []) ≡ length space + 1
long_enough [] name = refl
long_enough (part ∷ space) name = omega (arith, long_enough space name)

two : (space : List (List ℕ)) (name : List ℕ) → 0 < length space → nat_le 2 (length (space ++ name ∷ [])) ≡ true
two space name l = le-leb 2 (length (space ++ name ∷ [])) (omega (arith, long_enough space name))

pub path_of : (space : List (List ℕ)) (name : List ℕ) → 0 < length space → All IsIdent space → IsIdent name → IsTrue (is_path (prefix space ++ name))
path_of space name l each last = rw (split space name each last) (rw (two space name l, all_named space name each last) refl)
