-- Full names that are taken, without regard to ASCII case.
use Rattle.std.specs.Prelude.{ℕ, List, Option, Some, None, if◌then◌else◌}
use Rattle.ranked.specs.Entries.{Entry}
use Rattle.ranked.specs.First.{Or, Among}
use Rattle.ranked.specs.Repeats.{Repeated}
use Rattle.wr_base.specs.Lower.{lower}
use Rattle.wr_base.specs.declared.code.Code.TheVariants.{DuplicateName}
use Rattle.found_table.specs.Table.{is_found}
use Rattle.midl_names.specs.Items.{Item, own_name, full_name}
use Rattle.midl_names.specs.Faults.{entry_at, Gives}

abbrev pub lower_name : Item → List ℕ
lower_name i = lower (full_name i)

abbrev pub duplicate_entry : Item → Entry
duplicate_entry i = entry_at i (own_name i.tree).offset DuplicateName (full_name i)

abbrev pub found_again : Item → Option Entry
found_again i = if is_found (full_name i) then Some (duplicate_entry i) else None

-- an item whose full name an earlier item or a found type has, but for ASCII case
abbrev pub IsDuplicate : List Item → Entry → Type 0
IsDuplicate items = Or (Repeated lower_name duplicate_entry items) (Among items (λ i. Gives (found_again i)))
