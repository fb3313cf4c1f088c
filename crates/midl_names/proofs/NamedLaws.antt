-- Members with names get ABI names.
use Rattle.std.proofs.Common.{◌≡◌, ◌+◌, ◌<◌, ◌≤◌, ◌^◌, ◌%◌, ◌==◌, subst, ℕ, Bool, true, false, ◌&&◌, cond, IsTrue, List, [], ◌∷◌, ◌++◌, take, drop, length, refl, ap, sym, ◌∙◌, arith, count_by}
use Rattle.std.specs.List.{All, list_all}
use Rattle.std.specs.Fmt.{decimal}
use Rattle.std.proofs.lemmas.Fmt.{decimal_by_steps, length-decimal-le}
use Rattle.std.proofs.lemmas.List.{length-append, take_all, drop_all, append-nil}
use Rattle.std.proofs.lemmas.List.Sums.{count_by-le-length}
use Rattle.std.proofs.lemmas.List.Elements.{All-nil, All-cons, All-head, All-tail}
use Rattle.wr_base.specs.Paths.{is_identifier, is_start, is_rest}
use Rattle.wr_base.specs.declared.declaration.Member.{Member}
use Rattle.wr_base.specs.declared.declaration.Member.TheVariants.{Method, Property, Event}
use Rattle.placed_items.specs.Named.{IsName, IsAbiName, IsNamedMember}
use Rattle.midl_names.specs.Members.{is_method, abi_name, count_before, with_abi, named_from}
use Rattle.midl_names.specs.RawMembers.{IsRawMember}

joined : (b c d : Bool) → (b && c) ≡ true → (c ≡ true → d ≡ true) → (b && d) ≡ true
joined true c d h f = f h
joined false c d h f = absurd cc

all_rest : (xs ys : List ℕ) → list_all is_rest xs ≡ true → list_all is_rest ys ≡ true → list_all is_rest (xs ++ ys) ≡ true
all_rest [] ys h g = g
all_rest (x ∷ xs) ys h g = joined (is_rest x) (list_all is_rest xs) (list_all is_rest (xs ++ ys)) h (λ t. all_rest xs ys t g)

digit_rest : (d : ℕ) → d < 10 → is_rest (48 + d) ≡ true
digit_rest d h = grind arith

digits_rest : (n : ℕ) → n < 2 ^ 64 → list_all is_rest (decimal n) ≡ true
digits_rest = decimal_by_steps (λ n ds. list_all is_rest ds ≡ true)
    (λ n h. rw (digit_rest n h) refl)
    (λ n ds l h. all_rest ds ((48 + n % 10) ∷ []) h (rw (digit_rest (n % 10) (omega arith)) refl))

-- digits behind an identifier
numbered : (name : List ℕ) (n : ℕ) → n < 2 ^ 64 → IsTrue (is_identifier name) → IsTrue (is_identifier (name ++ decimal n))
numbered [] n l h = absurd cc
numbered (b ∷ bs) n l h = joined (is_start b) (list_all is_rest bs) (list_all is_rest (bs ++ decimal n)) h (λ t. all_rest bs (decimal n) t (digits_rest n l))

abi_named : (name : List ℕ) (count : ℕ) → count + 1 < 2 ^ 64 → IsName name → IsAbiName (abi_name name count)
abi_named name count l h = go (count == 0) refl
  where
    short : length (name ++ decimal (count + 1)) ≤ 511
    short = omega (arith, length-append name (decimal (count + 1)), length-decimal-le 20 (count + 1) (omega arith) (omega (arith, l)) (omega (arith, l)), h.short)

    go : (b : Bool) → (count == 0) ≡ b → IsAbiName (cond b name (name ++ decimal (count + 1)))
    go true t = record { identifier = h.identifier; short = omega (arith, h.short) }
    go false t = record { identifier = numbered name (count + 1) l h.identifier; short = short }

with_abi_named : (before : List Member) (m : Member) → length before + 1 < 2 ^ 64 → IsRawMember m → IsNamedMember (with_abi (count_before before m) m)
with_abi_named before (Method name abi sig) l h =
    record { own = h.0; abi_own = abi_named name (count_by (is_method name) before) (omega (arith, l, count_by-le-length (is_method name) before)) h.0; params = h.1 }
with_abi_named before (Property name ty put) l h = h
with_abi_named before (Event name ty) l h = h

named_behind : (before ms : List Member) → length before + length ms < 2 ^ 64 → All IsRawMember ms → All IsNamedMember (named_from before ms)
named_behind before [] l h = All-nil IsNamedMember
named_behind before (m ∷ ms) l h =
    All-cons IsNamedMember (with_abi (count_before before m) m) (named_from (before ++ m ∷ []) ms)
    (with_abi_named before m (omega (arith, l)) (All-head IsRawMember m ms h))
    (named_behind (before ++ m ∷ []) ms (omega (arith, l, length-append before (m ∷ []))) (All-tail IsRawMember m ms h))

pub named_all : (old new : List Member) → length old < 2 ^ 64 → new ≡ named_from [] old → All IsRawMember old → All IsNamedMember new
named_all old new l e h = subst (All IsNamedMember) (sym e) (named_behind [] old (omega (arith, l)) h)

-- at the end of the members
pub named_done : (old new : List Member) (i : ℕ) → length old ≤ i → new ≡ named_from [] (take i old) ++ drop i old → new ≡ named_from [] old
named_done old new i l e =
    e ∙ ap (λ xs. named_from [] xs ++ drop i old) (take_all i old l)
    ∙ ap (λ ys. named_from [] old ++ ys) (drop_all i old l)
    ∙ append-nil (named_from [] old)
