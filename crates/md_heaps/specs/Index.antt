-- The index of a heap: tables of entries, and which of them an entry is looked for in.
use Rattle.std.specs.Prelude.{ℕ, ◌+◌, ◌/◌, ◌^◌, List, [], ◌∷◌, ◌++◌, filter, nat_eq}
use Rattle.std.specs.Hash.FoldHasher.{initial, write, finish}
use Rattle.std.specs.FinMap.{from_entries}
use Rattle.md_heaps.specs.Heaps.{Indices}

-- contents, each with its number
abbrev pub Entries : Type 0
Entries = List (List ℕ × ℕ)

-- the number of the table for a content: the top four bits of its hash
abbrev pub table_of : List ℕ → ℕ
table_of content = finish (write initial content) / 2 ^ 60

-- the entries of a table that are looked for there
abbrev pub looked_for : ℕ → Entries → Entries
looked_for number entries = filter (λ e. nat_eq (table_of e.0) number) entries

-- the same of tables that are counted from a number on
abbrev pub all_from : ℕ → List Entries → Entries
all_from number [] = []
all_from number (table ∷ tables) = looked_for number table ++ all_from (number + 1) tables

-- the number of each content in the tables
abbrev pub indices_of : List Entries → Indices
indices_of tables = from_entries (all_from 0 tables)
