-- Rules over lists, names and counts: what breaks them, and what doesn't.
use Rattle.std.proofs.Common.{◌≡◌, ℕ, true, false, List, [], ◌∷◌, ◌++◌, Some, None, refl, sym, ap, ◌∙◌}
use Rattle.std.specs.Prelude.{codes}
use Rattle.std.proofs.Math.ListN.{replicate}
use Rattle.wr_base.specs.declared.type_use.TypeUse.TheVariants.{Reference}
use Rattle.wr_base.specs.declared.declaration.Declaration.{Declaration}
use Rattle.wr_base.specs.declared.declaration.Declaration.TheVariants.{Enum, Interface, Class}
use Rattle.wr_base.specs.Uses.{text_of}
use Rattle.wr_base.specs.Trees.{text_of_tree}
use Rattle.wr_base.proofs.TreeLaws.{text_of-tree_of, tree_Reference}
use Rattle.wr_rules.specs.Sites.{Site}
use Rattle.wr_rules.specs.ListRules.{lacks, misses_default, fixed_with, stands_twice, head_of}
use Rattle.wr_rules.specs.NameRules.{holds}
use Rattle.wr_rules.specs.Limits.{passes, is_long_name, before}

abbrev ia : List ℕ
ia = codes "S.IA"

abbrev ib : List ℕ
ib = codes "S.IB"

abbrev ic : List ℕ
ic = codes "S.IC"

text_of-Reference : (name : List ℕ) → text_of (Reference name) ≡ name
text_of-Reference name = sym (text_of-tree_of (Reference name)) ∙ ap text_of_tree (tree_Reference name)

-- IA requires IB, which requires IC
abbrev row : List Declaration
row = Interface ia 1 1 None (Reference ib ∷ []) [] ∷ Interface ib 1 2 None (Reference ic ∷ []) [] ∷ Interface ic 1 3 None [] [] ∷ []

-- NotClosed: what an element requires is wanted too, and no more
open_list : lacks row (Reference ia ∷ Reference ib ∷ []) ≡ true
open_list = rw (text_of-Reference ia, text_of-Reference ib, text_of-Reference ic) refl

closed_list : lacks row (Reference ib ∷ Reference ic ∷ []) ≡ false
closed_list = rw (text_of-Reference ib, text_of-Reference ic) refl

-- DefaultMissing: a class that is neither direct nor has factories needs none
no_default :
    (misses_default row (Class (codes "S.C") 1 false None [] true [] []) ≡ true)
    × (misses_default row (Class (codes "S.C") 1 false None [] false (ia ∷ []) []) ≡ true)
    × (misses_default row (Class (codes "S.C") 1 false None [] false [] (ia ∷ [])) ≡ false)
no_default = (refl, refl, refl)

-- and a default stands in `has`
default_apart : misses_default row (Class (codes "S.C") 1 false (Some (Reference ia)) (Reference ib ∷ []) true [] []) ≡ true
default_apart = rw (text_of-Reference ia, text_of-Reference ib) refl

default_there : misses_default row (Class (codes "S.C") 1 false (Some (Reference ia)) (Reference ia ∷ []) true [] []) ≡ false
default_there = rw (text_of-Reference ia) refl

-- StaticMembers: a fixed class may have statics alone
fixed :
    (fixed_with row (Class (codes "S.C") 1 true None [] false [] (ia ∷ [])) ≡ false)
    × (fixed_with row (Class (codes "S.C") 1 true None [] true [] []) ≡ true)
    × (fixed_with row (Class (codes "S.C") 1 true None [] false (ia ∷ []) []) ≡ true)
    × (fixed_with row (Class (codes "S.C") 1 false None [] true [] []) ≡ false)
fixed = (refl, refl, refl, refl)

-- MemberClash: an interface in two of a class's lists
twice : stands_twice row [] (ia ∷ []) (ib ∷ ia ∷ []) ≡ true
twice = refl

once : stands_twice row [] (ia ∷ []) (ib ∷ []) ≡ false
once = refl

-- the name that a text begins with
heads : (head_of (codes "S.I<S.J<S.K>>") ≡ codes "S.I") × (head_of ia ≡ ia)
heads = (refl, refl)

-- NamespaceClash: whole parts, but for case, at any depth; a type isn't within itself
spaces :
    (holds (codes "windows") (codes "Windows.Foundation.Uri") ≡ true)
    × (holds (codes "Windows.Foundation") (codes "Windows.Foundation.Uri") ≡ true)
    × (holds (codes "Windows.Found") (codes "Windows.Foundation.Uri") ≡ false)
    × (holds (codes "Windows.Foundation.Uri") (codes "Windows.Foundation.Uri") ≡ false)
spaces = (refl, refl, refl, refl)

-- LongFullName: 511 bytes and 255 bytes a part are still short
abbrev letters : ℕ → List ℕ
letters n = replicate n 97

lengths :
    (is_long_name (letters 255 ++ 46 ∷ letters 255) ≡ false)
    × (is_long_name (letters 256 ++ 46 ∷ letters 2) ≡ true)
    × (is_long_name (letters 2 ++ 46 ∷ letters 256) ≡ true)
    × (is_long_name (letters 255 ++ 46 ∷ letters 254 ++ 46 ∷ letters 1) ≡ true)
lengths = (refl, refl, refl, refl)

-- limits: a limit is passed once, at the declaration that goes beyond it
abbrev site_at : ℕ → Site
site_at offset = record { decl = Enum (codes "S.E") 1 false []; places = record { at = record { file = 0; offset = offset }; parts = [] } }

passed_here : (passes (λ s. 3) 5 (site_at 0 ∷ []) (site_at 1) ≡ true) × (passes (λ s. 3) 6 (site_at 0 ∷ []) (site_at 1) ≡ false) × (passes (λ s. 3) 5 (site_at 0 ∷ site_at 1 ∷ []) (site_at 2) ≡ false)
passed_here = (refl, refl, refl)

-- by place first, and at one place by the order of names
order :
    (before 0 (record { file = 0; offset = 5 }) (site_at 5 ∷ site_at 3 ∷ site_at 7 ∷ []) ≡ site_at 3 ∷ [])
    × (before 1 (record { file = 0; offset = 5 }) (site_at 5 ∷ site_at 5 ∷ []) ≡ site_at 5 ∷ [])
order = (refl, refl)
