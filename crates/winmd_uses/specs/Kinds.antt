-- What the rows of a declaration use, by its kind.
use Rattle.std.specs.Prelude.{ℕ, Bool, true, false, List, [], ◌∷◌, map, codes, Option, if◌then◌else◌}
use Rattle.std.specs.List.{flat_map}
use Rattle.std.specs.Option.{is_some}
use Rattle.wr_base.specs.declared.declaration.Case.{Case}
use Rattle.wr_base.specs.Trees.{UseTree, SignatureTree, FieldTree, MemberTree}
use Rattle.winmd_lines.specs.Lines.{MadeBy}
use Rattle.winmd_lines.specs.Makers.{Maker}
use Rattle.winmd_lines.specs.UsedNames.{names_in_use, names_in_signature}
use Rattle.winmd_sets.specs.Declared.{class_interface, interface_line}
use Rattle.winmd_sets.specs.Members.{members_lines}
use Rattle.winmd_uses.specs.Takes.{Says, both, cell_says, lines_say, names_alone}

abbrev pub nothing : Says
nothing = names_alone []

abbrev pub made_if : Bool → Maker → Says
made_if test maker = if test then cell_says (MadeBy maker) else nothing

abbrev pub some_there : {A : Type 0} → List A → Bool
some_there [] = false
some_there (x ∷ xs) = true

-- the base and the version
abbrev pub base_says : List ℕ → Says
base_says base = both (names_alone (base ∷ [])) (cell_says (MadeBy Maker.Version))

-- the id and the version
abbrev pub id_says : Says
id_says = both (cell_says (MadeBy Maker.Guid)) (cell_says (MadeBy Maker.Version))

-- cases are of the enum's own type
abbrev pub own_name : List ℕ → List Case → Says
own_name name cases = names_alone (if some_there cases then name ∷ [] else [])

abbrev pub enum_says : List ℕ → Bool → List Case → Says
enum_says name flags cases = both (names_alone (codes "System.Enum" ∷ [])) (both (made_if flags Maker.Flags) (both (cell_says (MadeBy Maker.Version)) (own_name name cases)))

abbrev pub struct_says : List FieldTree → Says
struct_says fields = both (base_says (codes "System.ValueType")) (names_alone (flat_map (λ f. names_in_use f.kind) fields))

abbrev pub delegate_says : SignatureTree → Says
delegate_says sig = both (names_alone (codes "System.MulticastDelegate" ∷ [])) (both id_says (names_alone (names_in_signature sig)))

abbrev pub interface_says : Option (List ℕ) → List UseTree → List MemberTree → Says
interface_says owner uses members = both id_says (both (made_if (is_some owner) Maker.ExclusiveTo) (both (lines_say (map interface_line uses)) (lines_say (members_lines [] members))))

abbrev pub makings_say : Bool → List (List ℕ) → List (List ℕ) → Says
makings_say direct factories statics = both (made_if direct Maker.Activatable) (both (made_if (some_there factories) Maker.Factory) (made_if (some_there statics) Maker.Static))

abbrev pub class_says : Option UseTree → List UseTree → Bool → List (List ℕ) → List (List ℕ) → Says
class_says default has direct factories statics = both (base_says (codes "System.Object")) (both (lines_say (flat_map (class_interface default) has)) (makings_say direct factories statics))
