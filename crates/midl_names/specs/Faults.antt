-- An entry of an item, and a rule with at most one entry for each thing.
use Rattle.std.specs.Prelude.{◌≡◌, ℕ, List, Option, Some}
use Rattle.ranked.specs.Entries.{Entry}
use Rattle.wr_base.specs.declared.code.Code.{Code}
use Rattle.wr_base.specs.Codes.{rank_of}
use Rattle.midl_names.specs.Items.{Item}

-- in the item's file
abbrev pub entry_at : Item → ℕ → Code → List ℕ → Entry
entry_at item offset code word = record { file = item.file; offset = offset; code = rank_of code; word = word }

-- the entry that is there, if one is
unfoldable pub Gives : Option Entry → Entry → Type 0
Gives fault e = fault ≡ Some e
