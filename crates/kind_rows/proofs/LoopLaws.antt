-- Lines that are written in a loop, and calls that follow each other.
use Rattle.std.proofs.Common.{◌≡◌, ℕ, suc, ◌+◌, ◌<◌, List, [], ◌∷◌, ◌++◌, length, drop, get_or, Result, Ok, Err, refl, sym, ap, ◌∙◌}
use Rattle.std.specs.Prelude.{OnOk, if◌then◌else◌}
use Rattle.std.proofs.lemmas.List.{drop_more}
use Rattle.md_schema.specs.declared.table.Table.TheVariants as tables
use Rattle.winmd_lines.specs.Lines.{Line, line, Number, Words}
use Rattle.winmd_lines.specs.Names.{Names}
use Rattle.row_writer.specs.Known.{Values}
use Rattle.winmd_sets.specs.Members.{param_lines}
use Rattle.wr_base.specs.Trees.{ParamTree}
use Rattle.part_rows.specs.Grown.{with_line, with_lines}
use Rattle.part_rows.specs.Nothing.{nothing}
use Rattle.part_rows.proofs.GrownLaws.{with_both}

pub on_ok : {T E : Type 0} (r : Result T E) (P Q : Type 0) → (P → Q) → OnOk r P → OnOk r Q
on_ok (Ok x) P Q f h = f h
on_ok (Err e) P Q f h = tt

-- one item more of a list whose lines are those of its first item and of the others
pub loop_step : {A : Type 0} (names : Names) (lines : List A → List Line) (front : A → List Line) → ((x : A) (xs : List A) → lines (x ∷ xs) ≡ front x ++ lines xs) → (all : List A) (i : ℕ) (x : A) (old new : Values)
    → i < length all → get_or all i x ≡ x → new ≡ with_lines names (front x) old → with_lines names (lines (drop (i + 1) all)) new ≡ with_lines names (lines (drop i all)) old
loop_step {A = A} names lines front splits all i x old new lt here e =
    let rest : List A = drop (i + 1) all in
    let split : drop i all ≡ x ∷ rest = drop_more all i x lt ∙ ap (λ (y : A). y ∷ rest) here in
    ap (λ (rows : Values). with_lines names (lines rest) rows) e ∙ sym (with_both names (front x) (lines rest) old)
    ∙ ap (λ (ls : List Line). with_lines names ls old) (sym (splits x rest)) ∙ ap (λ (xs : List A). with_lines names (lines xs) old) (sym split)

-- lines, and lines behind them
pub then_lines : (names : Names) (xs ys : List Line) (a b c : Values) → b ≡ with_lines names xs a → c ≡ with_lines names ys b → c ≡ with_lines names (xs ++ ys) a
then_lines names xs ys a b c e h = h ∙ ap (λ (rows : Values). with_lines names ys rows) e ∙ sym (with_both names xs ys a)

-- parameters refer to nothing
pub params_any : (names : Names) (n : ℕ) (ps : List ParamTree) (rows : Values) → with_lines nothing (param_lines n ps) rows ≡ with_lines names (param_lines n ps) rows
params_any names n [] rows = refl
params_any names n (p ∷ ps) rows = params_any names (suc n) ps (with_line names (line tables.Param (Number (if p.out then 2 else 1) ∷ Number n ∷ Words p.name ∷ [])) rows)
