-- ABI names one by one.
use Rattle.std.proofs.Common.{◌≡◌, ◌<◌, ℕ, ◌+◌, Bool, true, false, ◌&&◌, ◌||◌, cond, List, [], ◌∷◌, ◌++◌, codes, Some, length, count_by, refl, sym, ap, ◌∙◌, arith, length-append}
use Rattle.std.specs.List.{list_any}
use Rattle.std.specs.Option.{option_map}
use Rattle.std.specs.Str.{bytes_eq}
use Rattle.std.specs.Cmp.Lexicographic.{bytes_decides}
use Rattle.std.proofs.lemmas.List.Sums.{sum_by-cons}
use Rattle.std.proofs.lemmas.Option.{none-some, same_Some}
use Rattle.wr_base.specs.declared.declaration.Member.{Member}
use Rattle.wr_base.specs.declared.declaration.Member.TheVariants.{Method, Property, Event}
use Rattle.wr_rules.specs.Members.{member_name, abi_names}
use Rattle.wr_base.specs.Lower.{lower}
use Rattle.wr_rules.specs.MemberRules.{has_name, same_lower}
use Rattle.member_counts.proofs.Turned.{turned}
use Rattle.accessor_clash.specs.AbiCounts.{first_abi, second_abi, some_passes, is_lower, has_lower, is_own}

or_nothing : (b : Bool) → (b || false) ≡ b
or_nothing true = refl
or_nothing false = refl

is_false : (b : Bool) → ¬ (b ≡ true) → b ≡ false
is_false true n = absurd (n refl)
is_false false n = refl

-- ---- the two ABI names of a member differ

abbrev head_or : ℕ → List ℕ → ℕ
head_or d [] = d
head_or d (x ∷ xs) = x

both_are : (x y t : List ℕ) → bytes_eq x t ≡ true → bytes_eq y t ≡ true → head_or 0 x ≡ head_or 0 y
both_are x y t e f = ap (head_or 0) ((bytes_decides x t).0 e ∙ sym ((bytes_decides y t).0 f))

apart : (m n : ℕ) → m < n → ¬ (m ≡ n)
apart m n l e = absurd (omega (arith, l, e))

get_put : (name t : List ℕ) → bytes_eq (lower (codes "get_" ++ name)) t ≡ true → ¬ (bytes_eq (lower (codes "put_" ++ name)) t ≡ true)
get_put name t e f = apart 103 112 (omega arith) (both_are (lower (codes "get_" ++ name)) (lower (codes "put_" ++ name)) t e f)

add_remove : (name t : List ℕ) → bytes_eq (lower (codes "add_" ++ name)) t ≡ true → ¬ (bytes_eq (lower (codes "remove_" ++ name)) t ≡ true)
add_remove name t e f = apart 97 114 (omega arith) (both_are (lower (codes "add_" ++ name)) (lower (codes "remove_" ++ name)) t e f)

one_counted : (a b : Bool) → (a ≡ true → ¬ (b ≡ true)) → cond (a || (b || false)) 1 0 ≡ cond a 1 0 + cond b 1 0
one_counted true true n = absurd (n refl refl)
one_counted true false n = refl
one_counted false true n = refl
one_counted false false n = refl

alone : (a : Bool) → cond (a || false) 1 0 ≡ cond a 1 0 + 0
alone true = refl
alone false = refl

pub each_counted : (m : Member) (t : List ℕ) → cond (has_lower (abi_names m) t) 1 0 ≡ cond (bytes_eq (lower (first_abi m)) t) 1 0 + cond (is_lower (second_abi m) t) 1 0
each_counted (Method name abi sig) t = alone (bytes_eq (lower abi) t)
each_counted (Property name ty true) t = one_counted (bytes_eq (lower (codes "get_" ++ name)) t) (bytes_eq (lower (codes "put_" ++ name)) t) (get_put name t)
each_counted (Property name ty false) t = alone (bytes_eq (lower (codes "get_" ++ name)) t)
each_counted (Event name ty) t = one_counted (bytes_eq (lower (codes "add_" ++ name)) t) (bytes_eq (lower (codes "remove_" ++ name)) t) (add_remove name t)

-- two tests of which at most one holds count what either holds of
pub count_sum : {X : Type 0} (p q r : X → Bool) → ((x : X) → cond (r x) 1 0 ≡ cond (p x) 1 0 + cond (q x) 1 0) → (xs : List X) → count_by r xs ≡ count_by p xs + count_by q xs
count_sum p q r e [] = refl
count_sum p q r e (x ∷ xs) =
    let a = sum_by-cons (λ y. cond (r y) 1 0) x xs in
    let b = sum_by-cons (λ y. cond (p y) 1 0) x xs in
    let c = sum_by-cons (λ y. cond (q y) 1 0) x xs in
    let d = e x in
    let h = count_sum p q r e xs in
    omega (arith, a, b, c, d, h)

-- ---- a member whose ABI name is its own

longer : (ps xs : List ℕ) → 0 < length ps → bytes_eq (ps ++ xs) xs ≡ false
longer ps xs l = is_false (bytes_eq (ps ++ xs) xs) (λ e. (let q = ap length ((bytes_decides (ps ++ xs) xs).0 e) in let n = length-append ps xs in absurd (omega (arith, q, n, l))))

two_no : (a b : Bool) → a ≡ false → b ≡ false → (a || (b || false)) ≡ false
two_no true b e f = cc
two_no false true e f = cc
two_no false false e f = refl

own_told : (m : Member) → has_lower (abi_names m) (lower (member_name m)) ≡ is_own m
own_told (Method name abi sig) = or_nothing (bytes_eq (lower abi) (lower name))
own_told (Property name ty true) =
    two_no (bytes_eq (lower (codes "get_" ++ name)) (lower name)) (bytes_eq (lower (codes "put_" ++ name)) (lower name))
    (longer (codes "get_") (lower name) (omega arith)) (longer (codes "put_") (lower name) (omega arith))
own_told (Property name ty false) = or_nothing (bytes_eq (lower (codes "get_" ++ name)) (lower name)) ∙ longer (codes "get_") (lower name) (omega arith)
own_told (Event name ty) =
    two_no (bytes_eq (lower (codes "add_" ++ name)) (lower name)) (bytes_eq (lower (codes "remove_" ++ name)) (lower name))
    (longer (codes "add_") (lower name) (omega arith)) (longer (codes "remove_") (lower name) (omega arith))

joined : (o h p q : Bool) → p ≡ q → (p ≡ true → o ≡ h) → (o && p) ≡ (h && q)
joined o h true true e f = ap (λ b. b && true) (f refl)
joined o h true false e f = cc
joined o h false true e f = cc
joined true true false false e f = refl
joined true false false false e f = refl
joined false true false false e f = refl
joined false false false false e f = refl

pub own_both : (a m : Member) → (is_own m && bytes_eq (lower (member_name m)) (lower (member_name a))) ≡ (has_name (abi_names m) (member_name a) && same_lower a m)
own_both a m =
    joined (is_own m) (has_name (abi_names m) (member_name a)) (bytes_eq (lower (member_name m)) (lower (member_name a))) (same_lower a m)
    (turned (lower (member_name m)) (lower (member_name a)))
    (λ e. sym (own_told m) ∙ ap (has_lower (abi_names m)) ((bytes_decides (lower (member_name m)) (lower (member_name a))).0 e))

-- ---- a test of all ABI names

or_both : (a b : Bool) → (a || b) ≡ (a || (b || false))
or_both true b = refl
or_both false b = sym (or_nothing b)

pub each_shared : (test : List ℕ → Bool) (m : Member) → (test (lower (first_abi m)) || some_passes test (option_map lower (second_abi m))) ≡ list_any (λ n. test (lower n)) (abi_names m)
each_shared test (Method name abi sig) = refl
each_shared test (Property name ty true) = or_both (test (lower (codes "get_" ++ name))) (test (lower (codes "put_" ++ name)))
each_shared test (Property name ty false) = refl
each_shared test (Event name ty) = or_both (test (lower (codes "add_" ++ name))) (test (lower (codes "remove_" ++ name)))

-- a test that the first one fails is that of the second
second_alone : (a b d : Bool) → a ≡ false → b ≡ d → b ≡ (a || (d || false))
second_alone true b d e f = cc
second_alone false b true e f = f
second_alone false b false e f = f

pub by_second : (test : List ℕ → Bool) (m : Member) (text : List ℕ) → second_abi m ≡ Some text → test (first_abi m) ≡ false → test text ≡ list_any test (abi_names m)
by_second test (Method name abi sig) text e f = absurd (none-some text e)
by_second test (Property name ty true) text e f = second_alone (test (codes "get_" ++ name)) (test text) (test (codes "put_" ++ name)) f (ap test (sym (same_Some (codes "put_" ++ name) text e)))
by_second test (Property name ty false) text e f = absurd (none-some text e)
by_second test (Event name ty) text e f = second_alone (test (codes "add_" ++ name)) (test text) (test (codes "remove_" ++ name)) f (ap test (sym (same_Some (codes "remove_" ++ name) text e)))
