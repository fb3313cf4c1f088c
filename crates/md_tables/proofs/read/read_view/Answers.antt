use Rattle.std.proofs.Common.{◌∙◌, ℕ, ◌+◌, ◌≤◌, List, [], length, get_or, map, ap, sym, subst}
use Rattle.md_bytes.specs.Bytes.{total}
use Rattle.md_schema.specs.declared.sizes.Sizes.{Sizes}
use Rattle.md_schema.specs.Schema.{all_tables, place_of}
use Rattle.md_schema.specs.Tables.{sizes_of, table_size}
use Rattle.md_tables.specs.Reading.{tables_at}
use Rattle.md_tables.proofs.ReadLemmas.{raw_read}
use Rattle.md_tables.proofs.read.read_view.Goals as goal

pub read_all-requires : goal.read_all-requires
read_all-requires c =
    subst (λ (s : Sizes). c.args.header.now.from + total (map (table_size s) all_tables) ≤ length c.args.bytes.now) (sym c.requires.sizes)
    (subst (λ (n : ℕ). n + total (map (table_size (sizes_of c.args.bytes.now)) all_tables) ≤ length c.args.bytes.now) (sym c.requires.from) c.requires.within)

pub returns : goal.returns
returns c = λ t.
    ap (λ (x : List (List (List ℕ))). get_or x (place_of t) []) c.in_ok-tables.ensures
    ∙ ap (λ (s : Sizes). get_or (tables_at c.args.bytes.now s c.args.header.now.from all_tables) (place_of t) []) c.requires.sizes
    ∙ ap (λ (n : ℕ). get_or (tables_at c.args.bytes.now (sizes_of c.args.bytes.now) n all_tables) (place_of t) []) c.requires.from
    ∙ raw_read c.args.bytes.now t
