-- The rows of a set of declarations state that set.
use Rattle.std.proofs.Common.{◌≡◌, List, [], ◌∷◌, map, Ok}
use Rattle.std.specs.List.{AllByRecursion}
use Rattle.winmd_rows.specs.Values.{Offsets, stated}
use Rattle.winmd_lines.specs.Names.{Names}
use Rattle.winmd_lines.specs.Cells.{Tables}
use Rattle.winmd_sets.specs.Types.{types_of}
use Rattle.winmd_sets.specs.Rows.{rows_with}
use Rattle.winmd_lines.specs.Orders.{set_by}
use Rattle.wr_base.specs.Trees.{DeclTree, enum, struct, delegate, interface, class, name_of}
use Rattle.winmd_sets.proofs.AttributeLaws.{tables_of}
use Rattle.winmd_sets.proofs.InterfaceLaws.{InterfaceOk, interface_type}
use Rattle.winmd_sets.proofs.SetLaws.{IsRead, settled, set_read}
use Rattle.winmd_sets.specs.Fits.{SetFits}
use Rattle.winmd_sets.proofs.ClassLaws.{ClassOk, class_type}
use Rattle.winmd_sets.proofs.DelegateLaws.{DelegateOk, delegate_type}
use Rattle.winmd_sets.proofs.StructLaws.{StructOk, struct_type}
use Rattle.winmd_sets.proofs.TypeLaws.{EnumOk, enum_type}

abbrev pub DeclOk : Tables → Names → DeclTree → Type 0
DeclOk t names (enum name version flags cases) = EnumOk names name version flags cases
DeclOk t names (struct name version fields) = StructOk t names name version fields
DeclOk t names (delegate name version id invoke) = DelegateOk t names name version id invoke
DeclOk t names (interface name version id owner requires_ members) = InterfaceOk t names name version id owner requires_ members
DeclOk t names (class name version fixed default has direct factories statics) = ClassOk t names name version default has direct factories statics

read_is : (names : Names) (ds : List DeclTree) (offset : Offsets) (d : DeclTree) → DeclOk (tables_of names ds offset) names d → IsRead names ds offset d
read_is names ds offset (enum name version flags cases) h = λ pre post s. enum_type names ds offset pre name version flags cases post h s
read_is names ds offset (interface name version id owner requires_ members) h = λ pre post s. interface_type names ds offset pre name version id owner requires_ members post h s
read_is names ds offset (struct name version fields) h = λ pre post s. struct_type names ds offset pre name version fields post h s
read_is names ds offset (delegate name version id invoke) h = λ pre post s. delegate_type names ds offset pre name version id invoke post h s
read_is names ds offset (class name version fixed default has direct factories statics) h = λ pre post s. class_type names ds offset pre name version fixed default has direct factories statics post h s

all_read : (names : Names) (all : List DeclTree) (offset : Offsets) (ds : List DeclTree) → AllByRecursion (DeclOk (tables_of names all offset) names) ds → AllByRecursion (IsRead names all offset) ds
all_read names all offset [] h = tt
all_read names all offset (d ∷ ds) h = (read_is names all offset d h.0, all_read names all offset ds h.1)

pub set_again : (names : Names) (ds : List DeclTree) (offset : Offsets) → AllByRecursion (DeclOk (tables_of names ds offset) names) ds → SetFits 0 0 (map settled ds)
    → types_of (record { rows = stated (rows_with names ds); offset = offset }) ≡ Ok (set_by name_of (map settled ds))
set_again names ds offset h ok = set_read names ds offset (all_read names ds offset ds h) ok
