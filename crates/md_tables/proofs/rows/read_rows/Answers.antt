use Rattle.std.proofs.Common.{◌≡◌, ◌∙◌, ℕ, ◌+◌, ◌*◌, List, [], ◌∷◌, ◌++◌, ap}
use Rattle.md_bytes.specs.Bytes.{total}
use Rattle.md_tables.specs.Lists.{cells_in}
use Rattle.md_tables.specs.Reading.{numbers_at, rows_at}
use Rattle.md_tables.proofs.ListLemmas.{cells_push}
use Rattle.md_tables.proofs.ReadLemmas.{rows_on, rows_fit}
use Rattle.md_tables.proofs.rows.read_rows.Goals as goal

pub loop-preserved : goal.loop-preserved
loop-preserved c =
    let ws : List ℕ = c.args.widths.now in
    let whole : List (List ℕ) = rows_at c.args.bytes.now c.args.start ws c.args.count in
    let fit = rows_fit c.args.count c.loop.at (total ws) (c.args.start + c.args.count * total ws) c.loop.counter c.loop-test.true c.loop.invariant.1 in
    let pushed : cells_in c.push.new.self.items ≡ cells_in c.loop.rows.items ++ numbers_at c.args.bytes.now c.loop.at ws ∷ [] =
    ap cells_in c.in_ok-push.ensures.items ∙ cells_push c.loop.rows.items c.read_row-row.result.value ∙ ap (λ (row : List ℕ). cells_in c.loop.rows.items ++ row ∷ []) c.read_row-row.ensures.cells in (
      rw (pushed, c.read_row-row.ensures.end) (rows_on c.args.bytes.now ws (cells_in c.loop.rows.items) whole c.args.count c.loop.at c.loop.counter c.loop-test.true c.loop.invariant.0),
      rw c.read_row-row.ensures.end fit.1,
    )
