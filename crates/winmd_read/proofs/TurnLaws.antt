-- All rows, and all steps, in turn.
use Rattle.std.proofs.Common.{◌≡◌, ℕ, List, map, length, Result, Ok, Err, refl}
use Rattle.md_schema.specs.Tables.{upto}
use Rattle.md_schema.specs.declared.table.Table.{Table}
use Rattle.md_schema.specs.declared.table.Table.TheVariants as tables
use Rattle.winmd_cells.specs.Seen.{seen, tables_in}
use Rattle.winmd_cells.specs.declared.image.Image.{Image}
use Rattle.winmd_lines.specs.Cells.{Tables, all_rows}
use Rattle.winmd_lists.proofs.ListLaws as lists
use Rattle.winmd_lists.specs.Begun.{well}
use Rattle.winmd_rows.specs.Faults.{Fault, ◌>>=◌, each, somes}
use Rattle.winmd_set.specs.Order.{set_in}
use Rattle.winmd_sets.specs.Types.{all_begin, none_generic, type_of, types_of}
use Rattle.winmd_read.specs.InTurn.{types_in_turn}

pub all_seen : (image : Image) (table : Table) (rows : List ℕ) → rows ≡ upto 1 (length ((tables_in image).rows table)) → map (seen image table) rows ≡ all_rows (tables_in image) table
all_seen = lists.all_seen

in_turn : {A B C D E : Type 0} (a : Result A Fault) (b : Result B Fault) (c : Result C Fault) (f : C → D) (g : D → Result E Fault)
    → (well a >>= λ x. b >>= λ y. (c >>= λ z. Ok (f z)) >>= g) ≡ (a >>= λ x. b >>= λ y. c >>= λ z. g (f z))
in_turn (Err e) b c f g = refl
in_turn (Ok x) (Err e) c f g = refl
in_turn (Ok x) (Ok y) (Err e) f g = refl
in_turn (Ok x) (Ok y) (Ok z) f g = refl

pub all_in_turn : (t : Tables) → types_in_turn t ≡ types_of t
all_in_turn t = in_turn (all_begin t) (none_generic t) (each (type_of t) (all_rows t tables.TypeDef)) somes (set_in t)
