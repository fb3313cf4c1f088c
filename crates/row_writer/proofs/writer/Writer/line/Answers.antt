use Rattle.std.proofs.Common.{◌≡◌, ℕ, ◌-◌, ◌<◌, ◌^◌, List, [], length, map, true, subst, ap, ◌∙◌, arith}
use Rattle.std.proofs.Math.Logic.{∥∥₁_map}
use Rattle.md_heaps.specs.Blobs.{blob_bytes}
use Rattle.md_heaps.specs.Texts.{text_bytes}
use Rattle.md_schema.specs.declared.table.Table.{Table}
use Rattle.md_schema.specs.declared.column.Column.{Column}
use Rattle.md_tables.specs.Rows.{rows_in}
use Rattle.winmd_rows.specs.Values.{Text, Blob}
use Rattle.row_writer.specs.Known.{Says, all_known, rows_seen}
use Rattle.row_writer.specs.Lines.{counts, value_of}
use Rattle.row_writer.proofs.CellLaws.{seen_grown, said_row}
use Rattle.row_writer.proofs.LineLaws.{either_way, counts_seen, known_pushed, seen_pushed, room_pushed}
use Rattle.row_writer.proofs.TightLaws.{tight_line}
use Rattle.row_writer.proofs.writer.Writer.line.Goals as goal

pub invariant_of-self : goal.invariant_of-self
invariant_of-self c = record {
  room = c.args.self.now.room;
  known = λ t. (seen_grown c.args.self.now.texts c.args.self.now.blobs c.numbers.new.texts c.numbers.new.blobs c.numbers.ensures.texts c.numbers.ensures.blobs c.numbers.ensures.standing (rows_in c.args.self.now.set) c.args.self.now.known t).1;
  standing = c.numbers.ensures.standing;
  empty_text = c.numbers.ensures.texts.entries [] 0 c.args.self.now.empty_text;
  empty_blob = c.numbers.ensures.blobs.entries [] 0 c.args.self.now.empty_blob;
  tight_texts = λ e. absurd cc;
  tight_blobs = λ e. absurd cc;
}

pub push_cells-requires : goal.push_cells-requires
push_cells-requires c =
    (said_row c.numbers.new.texts c.numbers.new.blobs c.columns.result.now c.in_ok-row.row.items (map (value_of (counts (rows_in c.args.self.now.set))) c.args.cells.now) c.in_ok-row.ensures.says).2
    ∙ ap (λ (cs : List Column). length cs) c.columns.ensures

pub invariant_of-self-in-Break-branch-2 : goal.invariant_of-self-in-Break-branch-2
invariant_of-self-in-Break-branch-2 c =
    let old : Table → List (List ℕ) = rows_in c.args.self.now.set in
    let new : Table → List (List ℕ) = rows_in c.push_cells.new.self in
    let says = subst (λ (cs : List Column). Says c.numbers.new.texts c.numbers.new.blobs cs c.in_ok-row.row.items (map (value_of (counts old)) c.args.cells.now)) c.columns.ensures c.in_ok-row.ensures.says in
    let low : length (old c.args.table) < 2 ^ 24 - 1 = omega (arith, c.if-count-ge-MOST_ROWS.false, c.count.ensures) in
    record {
      room = either_way c.push_cells.result _ _ ((t : Table) → length (new t) < 2 ^ 24)
          (λ pushed. room_pushed c.args.self.now.texts c.args.self.now.blobs c.numbers.new.texts c.numbers.new.blobs c.numbers.ensures.texts c.numbers.ensures.blobs c.numbers.ensures.standing old new c.args.self.now.known c.args.table c.args.cells.now c.in_ok-row.row.items says c.args.self.now.room low
          (λ t. ap (λ (f : Table → List (List ℕ)). f t) pushed))
          (λ same t. omega (arith, c.args.self.now.room t, ap (λ (f : Table → List (List ℕ)). length (f t)) same)) c.push_cells.ensures.added c.push_cells.ensures.unchanged;
      known = either_way c.push_cells.result _ _ ((t : Table) → all_known c.numbers.new.texts c.numbers.new.blobs new t ≡ true)
          (λ pushed. known_pushed c.args.self.now.texts c.args.self.now.blobs c.numbers.new.texts c.numbers.new.blobs c.numbers.ensures.texts c.numbers.ensures.blobs c.numbers.ensures.standing old new c.args.self.now.known c.args.table c.args.cells.now c.in_ok-row.row.items says
          (λ t. ap (λ (f : Table → List (List ℕ)). f t) pushed))
          (λ same t. ap (λ (f : Table → List (List ℕ)). all_known c.numbers.new.texts c.numbers.new.blobs f t) same
          ∙ (seen_grown c.args.self.now.texts c.args.self.now.blobs c.numbers.new.texts c.numbers.new.blobs c.numbers.ensures.texts c.numbers.ensures.blobs c.numbers.ensures.standing old c.args.self.now.known t).1) c.push_cells.ensures.added c.push_cells.ensures.unchanged;
      standing = c.numbers.ensures.standing;
      empty_text = c.numbers.ensures.texts.entries [] 0 c.args.self.now.empty_text;
      empty_blob = c.numbers.ensures.blobs.entries [] 0 c.args.self.now.empty_blob;
      tight_texts = λ e. absurd cc;
      tight_blobs = λ e. absurd cc;
    }

pub invariant_of-self-2 : goal.invariant_of-self-2
invariant_of-self-2 c =
    let old : Table → List (List ℕ) = rows_in c.args.self.now.set in
    let new : Table → List (List ℕ) = rows_in c.push_cells.new.self in
    let says = subst (λ (cs : List Column). Says c.numbers.new.texts c.numbers.new.blobs cs c.in_ok-row.row.items (map (value_of (counts old)) c.args.cells.now)) c.columns.ensures c.in_ok-row.ensures.says in
    let low : length (old c.args.table) < 2 ^ 24 - 1 = omega (arith, c.if-count-ge-MOST_ROWS.false, c.count.ensures) in
    let pushed = λ (t : Table). ap (λ (f : Table → List (List ℕ)). f t) c.in_ok-push_cells.ensures.added in
    let said = seen_pushed c.args.self.now.texts c.args.self.now.blobs c.numbers.new.texts c.numbers.new.blobs c.numbers.ensures.texts c.numbers.ensures.blobs c.numbers.ensures.standing old new c.args.self.now.known c.args.table c.args.cells.now c.in_ok-row.row.items says pushed in
    record {
      room = room_pushed c.args.self.now.texts c.args.self.now.blobs c.numbers.new.texts c.numbers.new.blobs c.numbers.ensures.texts c.numbers.ensures.blobs c.numbers.ensures.standing old new c.args.self.now.known c.args.table c.args.cells.now c.in_ok-row.row.items says c.args.self.now.room low pushed;
      known = known_pushed c.args.self.now.texts c.args.self.now.blobs c.numbers.new.texts c.numbers.new.blobs c.numbers.ensures.texts c.numbers.ensures.blobs c.numbers.ensures.standing old new c.args.self.now.known c.args.table c.args.cells.now c.in_ok-row.row.items says pushed;
      standing = c.numbers.ensures.standing;
      empty_text = c.numbers.ensures.texts.entries [] 0 c.args.self.now.empty_text;
      empty_blob = c.numbers.ensures.blobs.entries [] 0 c.args.self.now.empty_blob;
      tight_texts = λ e. ∥∥₁_map (c.args.self.now.tight_texts e) (λ t. tight_line text_bytes Text c.args.table c.args.cells.now (rows_seen c.args.self.now.texts c.args.self.now.blobs old) (rows_seen c.numbers.new.texts c.numbers.new.blobs new) (counts old)
          c.args.self.now.texts c.numbers.new.texts (counts_seen c.args.self.now.texts c.args.self.now.blobs old) said t c.in_ok-row.ensures.grew_texts);
      tight_blobs = λ e. ∥∥₁_map (c.args.self.now.tight_blobs e) (λ t. tight_line blob_bytes Blob c.args.table c.args.cells.now (rows_seen c.args.self.now.texts c.args.self.now.blobs old) (rows_seen c.numbers.new.texts c.numbers.new.blobs new) (counts old)
          c.args.self.now.blobs c.numbers.new.blobs (counts_seen c.args.self.now.texts c.args.self.now.blobs old) said t c.in_ok-row.ensures.grew_blobs);
    }

pub returns : goal.returns
returns c =
    let old : Table → List (List ℕ) = rows_in c.args.self.now.set in
    let new : Table → List (List ℕ) = rows_in c.push_cells.new.self in
    let says = subst (λ (cs : List Column). Says c.numbers.new.texts c.numbers.new.blobs cs c.in_ok-row.row.items (map (value_of (counts old)) c.args.cells.now)) c.columns.ensures c.in_ok-row.ensures.says in
    record {
      rows = seen_pushed c.args.self.now.texts c.args.self.now.blobs c.numbers.new.texts c.numbers.new.blobs c.numbers.ensures.texts c.numbers.ensures.blobs c.numbers.ensures.standing old new c.args.self.now.known c.args.table c.args.cells.now c.in_ok-row.row.items says (λ t. ap (λ (f : Table → List (List ℕ)). f t) c.in_ok-push_cells.ensures.added);
    }
