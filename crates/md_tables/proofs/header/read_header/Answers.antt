use Rattle.std.proofs.Common.{◌≡◌, ◌∙◌, ℕ, ◌+◌, ◌*◌, false, ap, sym}
use Rattle.md_schema.specs.Tables.{bits_set, rows_from, valid_of}
use Rattle.md_tables.specs.Faults.{has_unknown}
use Rattle.md_tables.proofs.HeaderLemmas.{cut_by, whole_by}
use Rattle.md_tables.proofs.header.read_header.Goals as goal

pub returns-then-size_of_tables-bytes-clause-refused : goal.returns-then-size_of_tables-bytes-clause-refused
returns-then-size_of_tables-bytes-clause-refused c =
    let known : has_unknown (valid_of c.args.bytes.now) ≡ false = ap has_unknown (sym c.valid-bits.ensures) ∙ sym c.has_unknown.ensures ∙ c.if-has_unknown.false in
    let begin : 24 + 4 * c.bit_count.result ≡ rows_from c.args.bytes.now = ap (λ (n : ℕ). 24 + 4 * n) c.bit_count.ensures.value ∙ ap (λ (v : ℕ). 24 + 4 * bits_set 64 v) c.valid-bits.ensures in
    cut_by c.args.bytes.now c.read_sizes-sizes.result (24 + 4 * c.bit_count.result) c.size_of_tables.result c.if-bytes-lt24.false known c.read_sizes-sizes.ensures begin
    c.size_of_tables.ensures.value c.if-bytes-from.false c.if-size_of_tables-bytes.true

pub returns-clause-ok : goal.returns-clause-ok
returns-clause-ok c =
    let known : has_unknown (valid_of c.args.bytes.now) ≡ false = ap has_unknown (sym c.valid-bits.ensures) ∙ sym c.has_unknown.ensures ∙ c.if-has_unknown.false in
    let begin : 24 + 4 * c.bit_count.result ≡ rows_from c.args.bytes.now = ap (λ (n : ℕ). 24 + 4 * n) c.bit_count.ensures.value ∙ ap (λ (v : ℕ). 24 + 4 * bits_set 64 v) c.valid-bits.ensures in
    whole_by c.args.bytes.now c.read_sizes-sizes.result (24 + 4 * c.bit_count.result) c.size_of_tables.result c.if-bytes-lt24.false known c.read_sizes-sizes.ensures begin
    c.size_of_tables.ensures.value c.if-bytes-from.false c.if-size_of_tables-bytes.false
