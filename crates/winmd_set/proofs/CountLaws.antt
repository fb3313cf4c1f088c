-- Counts of full names.
use Rattle.std.proofs.Common.{◌≡◌, ℕ, ◌+◌, ◌-◌, nat_lt, Bool, true, false, cond, List, [], ◌∷◌, map, refl, sym, ap, ◌∙◌, arith, zero-add}
use Rattle.std.specs.Prelude.{◌||◌}
use Rattle.std.specs.List.{list_any}
use Rattle.std.specs.Str.{bytes_eq}
use Rattle.std.specs.Cmp.Lexicographic.{bytes_decides}
use Rattle.std.proofs.lemmas.Bool.Decides.{Decides-ltb}
use Rattle.wr_base.specs.declared.declaration.Declaration.{Declaration}
use Rattle.wr_base.specs.Declarations as declared
use Rattle.wr_base.specs.Trees.{name_of}
use Rattle.wr_base.specs.Normal.{normal}
use Rattle.wr_base.proofs.TreeLaws.{name_of-decl_tree}
use Rattle.wr_base.proofs.TwiceLemmas.{name_of-normal}
use Rattle.winmd_set.specs.declared.stated.Stated.{Stated}
use Rattle.winmd_set.specs.Stated.{is_again, set_tree, stated_seen}
use Rattle.winmd_set.specs.Counts.{one, times}

pub name_seen : (d : Declaration) → name_of (set_tree d) ≡ declared.name_of d
name_seen d = name_of-decl_tree (normal d) ∙ name_of-normal d

one_way : (p q : Bool) → (p ≡ true → q ≡ true) → (q ≡ true → p ≡ true) → p ≡ q
one_way true q f g = sym (f refl)
one_way false true f g = g refl
one_way false false f g = refl

turned : (a b : List ℕ) → bytes_eq a b ≡ bytes_eq b a
turned a b = one_way (bytes_eq a b) (bytes_eq b a) (λ e. (bytes_decides b a).1 (sym ((bytes_decides a b).0 e))) (λ e. (bytes_decides a b).1 (sym ((bytes_decides b a).0 e)))

more_at : (old : List ℕ → ℕ) (name text : List ℕ) (count : ℕ) (b : Bool) → bytes_eq name text ≡ b → count ≡ old name + 1 → cond b count (old text) ≡ one b + old text
more_at old name text count true e h = h ∙ ap (λ (t : List ℕ). old t + 1) ((bytes_decides name text).0 e) ∙ omega arith
more_at old name text count false e h = sym (zero-add (old text))

pub one_more : (old new : List ℕ → ℕ) (name : List ℕ) (count : ℕ) → count ≡ old name + 1 → ((other : List ℕ) → new other ≡ cond (bytes_eq name other) count (old other))
    → (text : List ℕ) → new text ≡ one (bytes_eq text name) + old text
one_more old new name count h step text =
    step text ∙ more_at old name text count (bytes_eq name text) refl h ∙ ap (λ (b : Bool). one b + old text) (turned name text)

less_at : (old : List ℕ → ℕ) (name text : List ℕ) (count rest : ℕ) (b : Bool) → bytes_eq name text ≡ b → count ≡ old name - 1 → old text ≡ one b + rest → cond b count (old text) ≡ rest
less_at old name text count rest true e h g =
    let same : old name ≡ old text = ap old ((bytes_decides name text).0 e) in omega (arith, h, g, same)
less_at old name text count rest false e h g = g ∙ zero-add rest

-- the counts of those that are left
pub one_less : (old new : List ℕ → ℕ) (s : Stated) (rest : List Stated) (count : ℕ) → count ≡ old (declared.name_of s.declaration) - 1
    → ((other : List ℕ) → new other ≡ cond (bytes_eq (declared.name_of s.declaration) other) count (old other)) → ((text : List ℕ) → old text ≡ times text (s ∷ rest))
    → (text : List ℕ) → new text ≡ times text rest
one_less old new s rest count h step so_far text =
    let name : List ℕ = declared.name_of s.declaration in
    step text ∙ less_at old name text count (times text rest) (bytes_eq name text) refl h (so_far text ∙ ap (λ (b : Bool). one b + times text rest) (turned text name))

some : (n : ℕ) → nat_lt 0 (1 + n) ≡ true
some n = (Decides-ltb 0 (1 + n)).1 (omega arith)

or_at : (b c : Bool) (n : ℕ) → nat_lt 0 n ≡ c → nat_lt 0 (one b + n) ≡ (b || c)
or_at true c n e = some n
or_at false c n e = ap (nat_lt 0) (zero-add n) ∙ e

any_is : (text : List ℕ) (rest : List Stated) → nat_lt 0 (times text rest) ≡ list_any (λ e. bytes_eq text (name_of e.1)) (map stated_seen rest)
any_is text [] = refl
any_is text (x ∷ xs) =
    or_at (bytes_eq text (declared.name_of x.declaration)) (list_any (λ e. bytes_eq text (name_of e.1)) (map stated_seen xs)) (times text xs) (any_is text xs)
    ∙ ap (λ (n : List ℕ). bytes_eq text n || list_any (λ e. bytes_eq text (name_of e.1)) (map stated_seen xs)) (sym (name_seen x.declaration))

left : (count n : ℕ) → count ≡ (1 + n) - 1 → count ≡ n
left count n e = omega (arith, e)

-- whether the name is left
pub again_is : (old : List ℕ → ℕ) (s : Stated) (rest : List Stated) (count : ℕ) → count ≡ old (declared.name_of s.declaration) - 1 → ((text : List ℕ) → old text ≡ times text (s ∷ rest))
    → nat_lt 0 count ≡ is_again (stated_seen s) (map stated_seen rest)
again_is old s rest count h so_far =
    let name : List ℕ = declared.name_of s.declaration in
    let self : bytes_eq name name ≡ true = (bytes_decides name name).1 refl in
    let all : old name ≡ 1 + times name rest = so_far name ∙ ap (λ (b : Bool). one b + times name rest) self in
    let is : count ≡ times name rest = left count (times name rest) (h ∙ ap (λ (n : ℕ). n - 1) all) in
    ap (nat_lt 0) is ∙ any_is name rest
    ∙ ap (λ (n : List ℕ). list_any (λ e. bytes_eq n (name_of e.1)) (map stated_seen rest)) (sym (name_seen s.declaration))

-- one more in front of those that were counted
pub counted : (total : ℕ) (old new : ℕ) (b : Bool) (rest : ℕ) → new ≡ one b + old → old + (one b + rest) ≡ total → new + rest ≡ total
counted total old new b rest e h = (let f : new + rest ≡ old + (one b + rest) = omega (arith, e) in f) ∙ h
