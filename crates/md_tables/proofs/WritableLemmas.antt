-- What each table has, and what no list of a set lacks.
use Rattle.std.proofs.Common.{ℕ, zero, suc, ◌<◌, List, [], ◌∷◌, length, get_or, subst, arith}
use Rattle.std.specs.List.{AllByRecursion}
use Rattle.md_schema.specs.declared.table.Table.{Table}
use Rattle.md_schema.specs.Schema.{all_tables, place_of}
use Rattle.md_schema.proofs.TablesLemmas.{place_is, place_low}

item_has : (P : Table → Type 0) (tables : List Table) (i : ℕ) (d : Table) → i < length tables → AllByRecursion P tables → P (get_or tables i d)
item_has P [] i d lt all = absurd (omega arith)
item_has P (table ∷ tables) zero d lt all = all.0
item_has P (table ∷ tables) (suc i) d lt all = item_has P tables i d (omega arith) all.1

-- what all tables of the list have, each table has
pub each_has : (P : Table → Type 0) → AllByRecursion P all_tables → (table : Table) → P table
each_has P all table = subst P (place_is table) (item_has P all_tables (place_of table) _ (place_low table) all)

pub all_have : (P : Table → Type 0) (tables : List Table) → ((table : Table) → P table) → AllByRecursion P tables
all_have P [] each = tt
all_have P (table ∷ tables) each = (each table, all_have P tables each)
