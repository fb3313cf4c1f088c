-- The first list that is disordered, as a loop looks for it.
use Rattle.std.proofs.Common.{◌≡◌, ℕ, ◌+◌, ◌<◌, ◌≤◌, List, ◌∷◌, length, get_or, drop, Option, Some, None, refl, sym, ap, ◌∙◌}
use Rattle.std.specs.Prelude.{option_map}
use Rattle.std.proofs.lemmas.List.{drop_all, drop_more}
use Rattle.md_tables.specs.declared.lists.RowList.{RowList}
use Rattle.md_tables.specs.Faults.{disorder, disordered_in, or_else}
use Rattle.md_tables.specs.Numbers.{Rows}

step : (rows : Rows) (list : RowList) (lists : List RowList) → disorder rows (list ∷ lists) ≡ or_else (option_map (λ row. (list, row)) (disordered_in rows list)) (disorder rows lists)
unfolding disorder
step rows list lists = refl

pub disorder_here : (rows : Rows) (lists : List RowList) (i row : ℕ) (list : RowList) → i < length lists → list ≡ get_or lists i list → disordered_in rows list ≡ Some row
    → disorder rows (drop i lists) ≡ Some (list, row)
disorder_here rows lists i row list lt e h =
    ap (disorder rows) (drop_more lists i list lt) ∙ ap (λ (x : RowList). disorder rows (x ∷ drop (i + 1) lists)) (sym e) ∙ step rows list (drop (i + 1) lists)
    ∙ ap (λ (o : Option ℕ). or_else (option_map (λ (r : ℕ). (list, r)) o) (disorder rows (drop (i + 1) lists))) h

pub disorder_on : (rows : Rows) (lists : List RowList) (i : ℕ) (list : RowList) → i < length lists → list ≡ get_or lists i list → disordered_in rows list ≡ None
    → disorder rows (drop i lists) ≡ disorder rows (drop (i + 1) lists)
disorder_on rows lists i list lt e h =
    ap (disorder rows) (drop_more lists i list lt) ∙ ap (λ (x : RowList). disorder rows (x ∷ drop (i + 1) lists)) (sym e) ∙ step rows list (drop (i + 1) lists)
    ∙ ap (λ (o : Option ℕ). or_else (option_map (λ (r : ℕ). (list, r)) o) (disorder rows (drop (i + 1) lists))) h

pub disorder_none : (rows : Rows) (lists : List RowList) (i : ℕ) → length lists ≤ i → disorder rows (drop i lists) ≡ None
unfolding disorder
disorder_none rows lists i le = ap (disorder rows) (drop_all i lists le)
