-- Uses of names that mean something are uses that rows can state.
use Rattle.std.proofs.Common.{◌≡◌, ◌==◌, ℕ, zero, suc, ◌≤◌, Bool, true, false, not, ◌&&◌, ◌||◌, cond, List, [], ◌∷◌, ◌++◌, Option, Some, None, length, refl, sym, ap, subst, ◌∙◌, arith, eqb-true, true≢false}
use Rattle.std.specs.Prelude.{nat_lt, nat_le}
use Rattle.std.specs.List.{All, AllByRecursion, list_all, list_any}
use Rattle.std.specs.Option.{option_or, option_map, option_and_then, is_none}
use Rattle.std.specs.Str.{bytes_eq}
use Rattle.std.specs.Cmp.Lexicographic.{bytes_decides}
use Rattle.std.proofs.lemmas.Option.{none-some, same_Some}
use Rattle.std.proofs.lemmas.List.Elements.{All-nil, All-cons, All-head, All-tail}
use Rattle.found_table.specs.Found.{FoundRow}
use Rattle.found_table.specs.Table.{table, row_of, builtin}
use Rattle.found_table.specs.Table.{name_of as row_name}
use Rattle.winmd_sets.specs.Fits.{IsName, UseFits, UsesFit, CellFits}
use Rattle.wr_base.specs.Declarations.{name_of, declared_as}
use Rattle.wr_base.specs.Paths.{is_short_part, is_short_name, parts_of}
use Rattle.wr_base.specs.Trees.{UseTree, plain, value, reference, instance, UseTrees, no_uses, use_and, list_of, count_of, within, among}
use Rattle.wr_base.specs.declared.declaration.Declaration.{Declaration}
use Rattle.wr_rules.specs.Accepted.{depth, deepest, has_arguments, have_arguments}
use Rattle.wr_rules.specs.Kinds.{Kind, enumeration, structure, delegate, interface, class, Meaning, declared, found, meaning_of, arity_of, applied, named, kind_used}
use Rattle.wr_rules.specs.Limits.{is_long_name}
use Rattle.wr_rules.specs.UseRules.{has_kind, is_value, is_delegate, is_interface, unresolved, wrong_kind}
use Rattle.writable_sets.specs.Stated.{NotGuid}

-- ---- names within their limits

or_parts : (a b : Bool) → (a || b) ≡ false → (a ≡ false) × (b ≡ false)
or_parts true b h = absurd (true≢false h)
or_parts false b h = (refl, h)

not_less : (m n : ℕ) → nat_lt m n ≡ false → nat_le n m ≡ true
not_less m n h = grind (arith, h)

short_parts : (parts : List (List ℕ)) → list_any (λ part. nat_lt 255 (length part)) parts ≡ false → list_all is_short_part parts ≡ true
short_parts [] h = refl
short_parts (p ∷ ps) h = let s = or_parts (nat_lt 255 (length p)) (list_any (λ part. nat_lt 255 (length part)) ps) h in ap (λ b. b && list_all is_short_part ps) (not_less 255 (length p) s.0) ∙ short_parts ps s.1

pub short_name : (name : List ℕ) → is_long_name name ≡ false → is_short_name name ≡ true
short_name name h =
    let s = or_parts (nat_lt 511 (length name)) (list_any (λ part. nat_lt 255 (length part)) (parts_of name)) h in
    ap (λ b. b && list_all is_short_part (parts_of name)) (not_less 511 (length name) s.0) ∙ short_parts (parts_of name) s.1

-- ---- the names of found types

pub record IsFoundRow (row : FoundRow) : Type 0 where
  pub named : IsName (row_name row)
  pub few : arity_of (found row) ≤ 2

all_found : AllByRecursion IsFoundRow table
all_found =
    (record { named = record { path = refl; short = refl }; few = omega arith }, (record { named = record { path = refl; short = refl }; few = omega arith }, (record { named = record { path = refl; short = refl }; few = omega arith }, (record { named = record { path = refl; short = refl }; few = omega arith }, (record { named = record { path = refl; short = refl }; few = omega arith }, (record { named = record { path = refl; short = refl }; few = omega arith }, (record { named = record { path = refl; short = refl }; few = omega arith }, (record { named = record { path = refl; short = refl }; few = omega arith }, tt))))))))

row_choice : (b : Bool) (name : List ℕ) (row : FoundRow) (o : Option FoundRow) (x : FoundRow) → bytes_eq name (row_name row) ≡ b → IsFoundRow row → ((x : FoundRow) → o ≡ Some x → IsFoundRow x × (name ≡ row_name x)) → cond b (Some row) o ≡ Some x → IsFoundRow x × (name ≡ row_name x)
row_choice true name row o x t h rest e = subst (λ (r : FoundRow). IsFoundRow r × (name ≡ row_name r)) (same_Some row x e) (h, (bytes_decides name (row_name row)).0 t)
row_choice false name row o x t h rest e = rest x e

row_found : (rows : List FoundRow) (name : List ℕ) (x : FoundRow) → AllByRecursion IsFoundRow rows → row_of rows name ≡ Some x → IsFoundRow x × (name ≡ row_name x)
row_found [] name x h e = absurd (none-some x e)
row_found (row ∷ rows) name x h e = row_choice (bytes_eq name (row_name row)) name row (row_of rows name) x refl h.0 (λ y g. row_found rows name y h.1 g) e

-- ---- what names mean

-- the full name of a declaration is within its limits
abbrev pub OwnName : Declaration → Type 0
OwnName d = IsName (name_of d)

declared_choice : (b : Bool) (name : List ℕ) (d : Declaration) (o : Option Declaration) (x : Declaration) → bytes_eq (name_of d) name ≡ b → OwnName d → ((y : Declaration) → o ≡ Some y → IsName name) → cond b (Some d) o ≡ Some x → IsName name
declared_choice true name d o x t h rest e = subst IsName ((bytes_decides (name_of d) name).0 t) h
declared_choice false name d o x t h rest e = rest x e

declared_named : (types : List Declaration) (name : List ℕ) (x : Declaration) → All OwnName types → declared_as types name ≡ Some x → IsName name
declared_named [] name x h e = absurd (none-some x e)
declared_named (d ∷ ds) name x h e = declared_choice (bytes_eq (name_of d) name) name d (declared_as ds name) x refl (All-head OwnName d ds h) (λ y g. declared_named ds name y (All-tail OwnName d ds h) g) e

-- a name within its limits, and a meaning that takes at most two arguments
abbrev IsMeant : List ℕ → Meaning → Type 0
IsMeant name m = IsName name × (arity_of m ≤ 2)

meant_by : (name : List ℕ) (a : Option Declaration) (b : Option FoundRow) (m : Meaning) → ((x : Declaration) → a ≡ Some x → IsName name) → ((x : FoundRow) → b ≡ Some x → IsFoundRow x × (name ≡ row_name x))
    → option_or (option_map declared a) (option_map found b) ≡ Some m → IsMeant name m
meant_by name (Some d) b m f g e = subst (IsMeant name) (same_Some (declared d) m e) (f d refl, omega arith)
meant_by name None (Some row) m f g e = let r = g row refl in subst (IsMeant name) (same_Some (found row) m e) (subst IsName (sym r.1) r.0.named, r.0.few)
meant_by name None None m f g e = absurd (none-some m e)

meant : (types : List Declaration) (name : List ℕ) (m : Meaning) → All OwnName types → meaning_of types name ≡ Some m → IsMeant name m
meant types name m own e = meant_by name (declared_as types name) (builtin name) m (λ x g. declared_named types name x own g) (λ x g. row_found table name x all_found g) e

applied_choice : (b : Bool) (count : ℕ) (m : Meaning) → (count == arity_of m) ≡ b → is_none (cond b (Some m) None) ≡ false → count ≡ arity_of m
applied_choice true count m t h = eqb-true count (arity_of m) t
applied_choice false count m t h = absurd (true≢false h)

named_by : (count : ℕ) (o : Option Meaning) → is_none (option_and_then (applied count) o) ≡ false → (m : Meaning) × (o ≡ Some m) × (count ≡ arity_of m)
named_by count None h = absurd (true≢false h)
named_by count (Some m) h = (m, refl, applied_choice (count == arity_of m) count m refl h)

-- a name that means something with so many arguments, which are few
pub named_fits : (types : List Declaration) (name : List ℕ) (count : ℕ) → All OwnName types → is_none (named types name count) ≡ false → IsName name × (count ≤ 2)
named_fits types name count own h =
    let m = named_by count (meaning_of types name) h in
    let w = meant types name m.0 own m.1 in
    (w.0, omega (arith, w.1, m.2))

-- ---- uses

list_count : (us : UseTrees) → count_of us ≡ length (list_of us)
list_count no_uses = refl
list_count (use_and u us) = ap suc (list_count us)

pub split_all : {X : Type 0} (P : X → Type 0) (xs ys : List X) → All P (xs ++ ys) → All P xs × All P ys
split_all P [] ys h = (All-nil P, h)
split_all P (x ∷ xs) ys h = let s = split_all P xs ys (All-tail P x (xs ++ ys) h) in (All-cons P x xs (All-head P x (xs ++ ys) h) s.0, s.1)

pub and_parts : (a b : Bool) → (a && b) ≡ true → (a ≡ true) × (b ≡ true)
and_parts true b h = (refl, h)
and_parts false b h = absurd cc

some_depth : (u : UseTree) → 1 ≤ depth u
some_depth (plain base) = omega arith
some_depth (value name) = omega arith
some_depth (reference name) = omega arith
some_depth (instance name us) = omega arith

module _ (types : List Declaration) (own : All OwnName types) where
  -- a use that is resolved, and no value of System.Guid
  abbrev pub IsSound : UseTree → Type 0
  IsSound v = (unresolved types v ≡ false) × NotGuid v

  mutual
    pub use_fits : (n : ℕ) (u : UseTree) → depth u ≤ n → has_arguments u ≡ true → All IsSound (within u) → UseFits n u
    use_fits zero u l h s = absurd (omega (arith, l, some_depth u))
    use_fits (suc n) (plain base) l h s = tt
    use_fits (suc n) (value name) l h s = let v = All-head IsSound (value name) [] s in ((named_fits types name 0 own v.0).0, v.1)
    use_fits (suc n) (reference name) l h s = let v = All-head IsSound (reference name) [] s in (named_fits types name 0 own v.0).0
    use_fits (suc n) (instance name no_uses) l h s = absurd (true≢false (sym h))
    use_fits (suc n) (instance name (use_and u us)) l h s =
        let v = All-head IsSound (instance name (use_and u us)) (among (use_and u us)) s in
        let f = named_fits types name (length (list_of (use_and u us))) own v.0 in
        (f.0, omega arith, omega (arith, f.1, list_count (use_and u us)), uses_fit n (use_and u us) (omega (arith, l)) h (All-tail IsSound (instance name (use_and u us)) (among (use_and u us)) s))

    uses_fit : (n : ℕ) (us : UseTrees) → deepest us ≤ n → have_arguments us ≡ true → All IsSound (among us) → UsesFit n us
    uses_fit n no_uses l h s = tt
    uses_fit n (use_and u us) l h s =
        let a = and_parts (has_arguments u) (have_arguments us) h in
        let p = split_all IsSound (within u) (among us) s in
        (use_fits n u (omega (arith, l)) a.0 p.0, uses_fit n us (omega (arith, l)) a.1 p.1)

  -- ---- types that cells name

  no_both : (o : Option Kind) (test : Kind → Bool) → ((k : Kind) → test k ≡ true → is_value k ≡ false) → has_kind test o ≡ true → not (has_kind is_value o) ≡ false → ⊥
  no_both None test apart h g = true≢false (sym h)
  no_both (Some k) test apart h g = true≢false (sym (ap not (apart k h)) ∙ g)

  pub cell_fits : (test : Kind → Bool) → ((k : Kind) → test k ≡ true → is_value k ≡ false) → (u : UseTree) → has_kind test (kind_used types u) ≡ true → wrong_kind types u ≡ false → UseFits 16 u → CellFits u
  cell_fits test apart (plain base) h g f = true≢false (sym h)
  cell_fits test apart (value name) h g f = no_both (kind_used types (value name)) test apart h g
  cell_fits test apart (reference name) h g f = f
  cell_fits test apart (instance name arguments) h g f = f

pub interface_apart : (k : Kind) → is_interface k ≡ true → is_value k ≡ false
interface_apart enumeration h = absurd (true≢false (sym h))
interface_apart structure h = absurd (true≢false (sym h))
interface_apart delegate h = refl
interface_apart interface h = refl
interface_apart class h = refl

pub delegate_apart : (k : Kind) → is_delegate k ≡ true → is_value k ≡ false
delegate_apart enumeration h = absurd (true≢false (sym h))
delegate_apart structure h = absurd (true≢false (sym h))
delegate_apart delegate h = refl
delegate_apart interface h = refl
delegate_apart class h = refl
