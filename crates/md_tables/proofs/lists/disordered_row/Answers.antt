use Rattle.std.proofs.Common.{◌∙◌, sym, ℕ, ◌<◌, ◌≤◌, length, arith, Bool}
use Rattle.md_tables.specs.Faults.{is_disordered}
use Rattle.md_tables.specs.Lists.{cells_in}
use Rattle.md_tables.proofs.FirstLemmas.{first_here, first_on, first_none}
use Rattle.md_tables.proofs.ListLemmas.{length-cells}
use Rattle.md_tables.proofs.lists.disordered_row.Goals as goal

pub returns-then-is_disordered : goal.returns-then-is_disordered
returns-then-is_disordered c =
    let f : ℕ → Bool = is_disordered (cells_in c.args.rows.now) c.args.column c.args.members in
    let lt : c.loop-row.row < length (cells_in c.args.rows.now) = omega (arith, length-cells c.args.rows.now, c.requires) in
    sym (first_here f c.loop-row.row (length (cells_in c.args.rows.now)) lt (sym c.is_disordered.ensures ∙ c.if-is_disordered.true)) ∙ c.loop-row.invariant

pub loop-row-preserved : goal.loop-row-preserved
loop-row-preserved c =
    let f : ℕ → Bool = is_disordered (cells_in c.args.rows.now) c.args.column c.args.members in
    let lt : c.loop-row.row < length (cells_in c.args.rows.now) = omega (arith, length-cells c.args.rows.now, c.requires) in
    sym (first_on f c.loop-row.row (length (cells_in c.args.rows.now)) lt (sym c.is_disordered.ensures ∙ c.if-is_disordered.false)) ∙ c.loop-row.invariant

pub returns : goal.returns
returns c =
    let f : ℕ → Bool = is_disordered (cells_in c.args.rows.now) c.args.column c.args.members in
    let le : length (cells_in c.args.rows.now) ≤ c.loop-row.row = omega (arith, length-cells c.args.rows.now, c.requires) in
    sym (first_none f c.loop-row.row (length (cells_in c.args.rows.now)) le) ∙ c.loop-row.invariant
