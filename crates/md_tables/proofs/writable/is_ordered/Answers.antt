use Rattle.std.proofs.Common.{◌≡◌, ◌∙◌, ℕ, ◌<◌, List, length, get_or, drop, refl, sym, Option, Some, None}
use Rattle.std.proofs.lemmas.List.{get_or_default}
use Rattle.md_schema.specs.declared.table.Table.TheVariants as tables
use Rattle.md_tables.specs.declared.lists.RowList.{RowList}
use Rattle.md_tables.specs.Faults.{disorder, disordered_in}
use Rattle.md_tables.specs.Numbers.{Rows}
use Rattle.md_tables.specs.Rows.{rows_in}
use Rattle.md_tables.proofs.DisorderLemmas.{disorder_here, disorder_none, disorder_on}
use Rattle.md_tables.proofs.writable.is_ordered.Goals as goal

none : RowList
none = record { owner = tables.Module; column = 0; member = tables.Module }

-- a list of rows that is found disordered
found : (rows : Rows) (lists : List RowList) (i : ℕ) (list : RowList) (row : Option ℕ) → i < length lists → list ≡ get_or lists i list → disordered_in rows list ≡ row
    → ¬ (row ≡ None) → ¬ (disorder rows (drop i lists) ≡ None)
found rows lists i list None lt e h is_some = λ _. is_some refl
found rows lists i list (Some row) lt e h is_some = λ ordered. let some = disorder_here rows lists i row list lt e h in cc

pub returns-then-is_disordered_in : goal.returns-then-is_disordered_in
unfolding none
returns-then-is_disordered_in c =
    let list : RowList = get_or c.args.lists.now c.loop-list.list-index none in
    let no = found (rows_in c.args.set.now) c.args.lists.now c.loop-list.list-index list (disordered_in (rows_in c.args.set.now) list) c.loop-list-test.true
    (get_or_default c.args.lists.now c.loop-list.list-index none list c.loop-list-test.true) refl (c.is_disordered_in.ensures.0 c.if-is_disordered_in.true) in
    (λ t. absurd cc, λ ordered. absurd (no (c.loop-list.invariant ∙ ordered)))

pub loop-list-preserved : goal.loop-list-preserved
unfolding none
loop-list-preserved c =
    let list : RowList = get_or c.args.lists.now c.loop-list.list-index none in
    let here : disordered_in (rows_in c.args.set.now) list ≡ None = by (disordered_in (rows_in c.args.set.now) list) refl in
    sym (disorder_on (rows_in c.args.set.now) c.args.lists.now c.loop-list.list-index list c.loop-list-test.true
    (get_or_default c.args.lists.now c.loop-list.list-index none list c.loop-list-test.true) here) ∙ c.loop-list.invariant
  where
    by : (row : Option ℕ) → disordered_in (rows_in c.args.set.now) (get_or c.args.lists.now c.loop-list.list-index none) ≡ row → row ≡ None
    by None e = refl
    by (Some row) e = absurd (let t = c.is_disordered_in.ensures.1 (λ ordered. cc) in let f = c.if-is_disordered_in.false in cc)

pub returns : goal.returns
returns c =
    let ordered : disorder (rows_in c.args.set.now) c.args.lists.now ≡ None =
    sym c.loop-list.invariant ∙ disorder_none (rows_in c.args.set.now) c.args.lists.now c.loop-list.list-index c.loop-list-test.false in
    (λ t. ordered, λ h. refl)
