-- Unions and conflicts, worked out by hand.
use Rattle.std.proofs.Common.{◌≡◌, ℕ, zero, suc, ◌+◌, ◌<◌, false, List, [], ◌∷◌, codes, Contains, get_or, refl, ap, ◌∙◌, arith}
use Rattle.std.specs.declared.cmp.Ordering.TheVariants.{Less}
use Rattle.std.specs.Ordering.{nat_cmp}
use Rattle.std.specs.Cmp.Lexicographic.{slice_cmp}
use Rattle.wr_base.specs.Declarations.{name_of, IsInOrder}
use Rattle.wr_base.specs.declared.declaration.Declaration.{Declaration}
use Rattle.wr_base.specs.declared.declaration.Declaration.TheVariants.{Enum, Struct}
use Rattle.md_merge.specs.Unions.{all_of, IsUnion, Conflicts, LeastConflict}
use Rattle.md_merge.proofs.MergeLaws.{no_conflict}

abbrev b : Declaration
b = Enum (codes "A.B") 1 false []

-- the same but for its version
abbrev newer_b : Declaration
newer_b = Enum (codes "A.B") 2 false []

abbrev c : Declaration
c = Struct (codes "A.C") 1 []

abbrev flags_c : Declaration
flags_c = Enum (codes "A.C") 1 false []

versions_apart : b ≡ newer_b → ⊥
versions_apart e = cc

-- ---- what two sets share stands once, in the order of names

abbrev two : List (List Declaration)
two = (c ∷ []) ∷ (b ∷ c ∷ []) ∷ []

whole : (d : Declaration) → Contains (all_of two) d → Contains (b ∷ c ∷ []) d
whole d (zero, l, e) = (1, omega arith, e)
whole d (suc zero, l, e) = (0, omega arith, e)
whole d (suc (suc zero), l, e) = (1, omega arith, e)
whole d (suc (suc (suc k)), l, e) = absurd (omega (arith, l))

within : (d : Declaration) → Contains (b ∷ c ∷ []) d → Contains (all_of two) d
within d (zero, l, e) = (1, omega arith, e)
within d (suc zero, l, e) = (0, omega arith, e)
within d (suc (suc k), l, e) = absurd (omega (arith, l))

order : IsInOrder (b ∷ c ∷ [])
order = record { rises = rise; short = omega arith }
  where
    rise : (k : ℕ) (d : Declaration) → k + 1 < 2 → slice_cmp nat_cmp (name_of (get_or (b ∷ c ∷ []) k d)) (name_of (get_or (b ∷ c ∷ []) (k + 1) d)) ≡ Less
    rise zero d l = refl
    rise (suc k) d l = absurd (omega (arith, l))

union : IsUnion two (b ∷ c ∷ [])
union = record { order = order; within = within; whole = whole }

-- no name of these has two declarations
none : (name : List ℕ) → Conflicts two name → ⊥
none name h = no_conflict two (b ∷ c ∷ []) name union h

-- ---- the versions of B differ, and C is a struct and an enum: B is the least

abbrev apart : List (List Declaration)
apart = (b ∷ c ∷ []) ∷ (newer_b ∷ flags_c ∷ []) ∷ []

conflict : Conflicts apart (codes "A.B")
conflict = record { one = b; other = newer_b; one_declared = (0, omega arith, refl); other_declared = (2, omega arith, refl); one_named = refl; other_named = refl; apart = versions_apart }

-- so there is no union of these
no_union : (types : List Declaration) → IsUnion apart types → ⊥
no_union types u = no_conflict apart types (codes "A.B") u conflict

-- no name before `A.B` is one of these
above_b : (d : Declaration) (name : List ℕ) → Contains (all_of apart) d → name_of d ≡ name → slice_cmp nat_cmp name (codes "A.B") ≡ Less → ⊥
above_b d name (zero, l, e) n less = (let at : slice_cmp nat_cmp (codes "A.B") (codes "A.B") ≡ Less = ap (λ x. slice_cmp nat_cmp x (codes "A.B")) (ap name_of e ∙ n) ∙ less in absurd cc)
above_b d name (suc zero, l, e) n less = (let at : slice_cmp nat_cmp (codes "A.C") (codes "A.B") ≡ Less = ap (λ x. slice_cmp nat_cmp x (codes "A.B")) (ap name_of e ∙ n) ∙ less in absurd cc)
above_b d name (suc (suc zero), l, e) n less = (let at : slice_cmp nat_cmp (codes "A.B") (codes "A.B") ≡ Less = ap (λ x. slice_cmp nat_cmp x (codes "A.B")) (ap name_of e ∙ n) ∙ less in absurd cc)
above_b d name (suc (suc (suc zero)), l, e) n less = (let at : slice_cmp nat_cmp (codes "A.C") (codes "A.B") ≡ Less = ap (λ x. slice_cmp nat_cmp x (codes "A.B")) (ap name_of e ∙ n) ∙ less in absurd cc)
above_b d name (suc (suc (suc (suc k))), l, e) n less = absurd (omega (arith, l))

least : LeastConflict apart (codes "A.B")
least = record { stands = conflict; least = λ other less h. above_b h.one other h.one_declared h.one_named less }
