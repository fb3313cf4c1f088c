-- How often a name stands in a set.
use Rattle.std.proofs.Common.{◌≡◌, ℕ, zero, suc, ◌+◌, ◌≤◌, true, false, cond, List, [], ◌∷◌, Some, map, slice_get, refl, ap, ◌∙◌, arith, zero-add}
use Rattle.std.specs.Str.{bytes_eq}
use Rattle.std.specs.Cmp.Lexicographic.{bytes_decides}
use Rattle.std.proofs.lemmas.Option.{same_Some, none-some}
use Rattle.std.proofs.lemmas.List.Sums.{sum_by-cons}
use Rattle.wr_base.specs.declared.declaration.Declaration.{Declaration}
use Rattle.wr_base.specs.Declarations.{name_of, times}

pub one_more : (d : Declaration) (ds : List Declaration) (name : List ℕ) → bytes_eq (name_of d) name ≡ true → times (d ∷ ds) name ≡ 1 + times ds name
one_more d ds name e = sum_by-cons (λ x. cond (bytes_eq (name_of x) name) 1 0) d ds ∙ ap (λ b. cond b 1 0 + times ds name) e

pub no_more : (d : Declaration) (ds : List Declaration) (name : List ℕ) → bytes_eq (name_of d) name ≡ false → times (d ∷ ds) name ≡ times ds name
no_more d ds name e = sum_by-cons (λ x. cond (bytes_eq (name_of x) name) 1 0) d ds ∙ ap (λ b. cond b 1 0 + times ds name) e ∙ zero-add (times ds name)

pub there : (ds : List Declaration) (i : ℕ) (name : List ℕ) → slice_get (map name_of ds) i ≡ Some name → 1 ≤ times ds name
there [] i name e = absurd (none-some name e)
there (d ∷ ds) zero name e = let t = one_more d ds name ((bytes_decides (name_of d) name).1 (same_Some (name_of d) name e)) in omega (arith, t)
there (d ∷ ds) (suc i) name e = let t = there ds i name e in elim (bytes_eq (name_of d) name) as (λ b. bytes_eq (name_of d) name ≡ b → 1 ≤ times (d ∷ ds) name) [
  | true ↦ λ h. (let o = one_more d ds name h in omega (arith, o))
  | false ↦ λ h. (let o = no_more d ds name h in omega (arith, o, t))
] refl
