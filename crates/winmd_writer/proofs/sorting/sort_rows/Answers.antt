use Rattle.std.proofs.Common.{rules, ◌≡◌, ◌∙◌, ℕ, true, List, [], ◌∷◌, get_or, refl, ap}
use Rattle.arrayvec.specs.ArrayVec.{ArrayVec}
use Rattle.std.specs.List.{list_all}
use Rattle.std.proofs.lemmas.List.Sorted.{IsNonDecreasingBy-from_sort_by_key}
use Rattle.std.proofs.lemmas.Fn.{always_returns_same}
use Rattle.md_tables.specs.Lists.{cells_in}
use Rattle.winmd_writer.specs.Sorted.{number_in}
use Rattle.winmd_writer.proofs.SortLaws.{stably_sorted, sorted_mapped}
use Rattle.winmd_writer.proofs.sorting.sort_rows.Goals as goal

all_pass : {A : Type 0} (xs : List A) → list_all (λ (x : A). true) xs ≡ true
all_pass [] = refl
all_pass (x ∷ xs) = all_pass xs

pub returns : goal.returns
returns c =
    let key : ArrayVec ℕ → ℕ = λ row. get_or row.items c.args.column 0 in
    ap cells_in (stably_sorted key c.args.rows.now.items c.sort_by_key.new.self.items
    (IsNonDecreasingBy-from_sort_by_key key _ c.in_ok-sort_by_key.ensures.sorted (λ a r q k. search rules))
    (c.in_ok-sort_by_key.ensures.stable key (always_returns_same _ _ _ (λ a r q k. search rules))))
    ∙ sorted_mapped key (number_in c.args.column) (λ (row : ArrayVec ℕ). row.items) (λ (row : ArrayVec ℕ). true) (λ row h. refl) c.args.rows.now.items (all_pass c.args.rows.now.items)
