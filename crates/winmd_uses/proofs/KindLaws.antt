-- What a declaration of each kind uses.
use Rattle.std.proofs.Common.{◌≡◌, ℕ, Bool, true, false, List, [], ◌∷◌, ◌++◌, map, codes, refl, sym, ap, ◌∙◌, append-nil}
use Rattle.std.specs.Prelude.{Option, Some, None, IsTrue, ◌↔◌, not, if◌then◌else◌}
use Rattle.std.specs.List.{list_any, flat_map}
use Rattle.std.specs.Option.{is_some}
use Rattle.md_schema.specs.declared.table.Table.TheVariants as tables
use Rattle.wr_base.specs.declared.declaration.Case.{Case}
use Rattle.wr_base.specs.declared.type_use.TypeUse.{TypeUse}
use Rattle.wr_base.specs.Trees.{UseTree, tree_of, SignatureTree, FieldTree, MemberTree, enum, struct, delegate, interface, class}
use Rattle.winmd_lines.specs.Lines.{Line, MadeBy, Type_}
use Rattle.winmd_lines.specs.Makers.{Maker}
use Rattle.winmd_lines.specs.Names.{specs_in_cell}
use Rattle.winmd_lines.specs.UsedNames.{names_in_signature, names_in_use}
use Rattle.winmd_sets.specs.Members.{when, attribute, case_lines, struct_field, map_line, map_lines, members_lines, is_property, is_event, signature_lines}
use Rattle.winmd_sets.specs.Declared.{class_interface, interface_line, is_default, lines_of, named_attribute, owner_of_type}
use Rattle.winmd_sets.specs.Values.{number_argument, type_argument}
use Rattle.winmd_uses.specs.Kinds.{class_says, delegate_says, enum_says, id_says, interface_says, made_if, makings_say, nothing, own_name, base_says, some_there, struct_says}
use Rattle.winmd_uses.specs.Takes.{Says, both, cell_says, lines_say, named_by, names_alone}
use Rattle.winmd_uses.proofs.TakeLaws.{Same, each, same_again, same_back, same_both, same_lists, same_none, same_refl, same_trans, lines_both}
use Rattle.winmd_uses.proofs.MemberLaws.{attribute_says, signature_say, when_says}

-- lines behind others
behind : (xs ys : List Line) (a b : Says) → Same a (lines_say xs) → Same b (lines_say ys) → Same (both a b) (lines_say (xs ++ ys))
behind xs ys a b e f = same_trans (both a b) (both (lines_say xs) (lines_say ys)) (lines_say (xs ++ ys)) (same_both a b (lines_say xs) (lines_say ys) e f) (lines_both xs ys)

-- behind lines that say nothing
silent : (xs ys : List Line) (b : Says) → Same nothing (lines_say xs) → Same b (lines_say ys) → Same b (lines_say (xs ++ ys))
silent xs ys b e f = behind xs ys nothing b e f

-- ---- an enum

cases_say : (name : List ℕ) (flags : Bool) (cs : List Case) → Same (own_name name cs) (lines_say (flat_map (case_lines name flags) cs))
cases_say name flags [] = same_refl nothing
cases_say name flags (c ∷ cs) =
    let one : Says = names_alone (name ∷ []) in
    same_back (lines_say (flat_map (case_lines name flags) (c ∷ cs))) one
    (same_trans (both one (lines_say (flat_map (case_lines name flags) cs))) (both one (own_name name cs)) one
    (same_both one (lines_say (flat_map (case_lines name flags) cs)) one (own_name name cs) (same_refl one) (same_back (own_name name cs) (lines_say (flat_map (case_lines name flags) cs)) (cases_say name flags cs)))
    (more cs))
  where
    more : (cs : List Case) → Same (both (names_alone (name ∷ [])) (own_name name cs)) (names_alone (name ∷ []))
    more [] = same_refl (names_alone (name ∷ []))
    more (c ∷ cs) = same_again (names_alone (name ∷ [])) (names_alone (name ∷ [])) refl (same_refl (names_alone (name ∷ [])))

pub enum_is : (name : List ℕ) (version : ℕ) (flags : Bool) (cs : List Case) → Same (enum_says name flags cs) (lines_say (lines_of (enum name version flags cs)))
enum_is name version true cs =
    let front : Says = both (names_alone (codes "System.Enum" ∷ [])) (both (made_if true Maker.Flags) (cell_says (MadeBy Maker.Version))) in
    same_both front (own_name name cs) front (lines_say (flat_map (case_lines name true) cs)) (same_refl front) (cases_say name true cs)
enum_is name version false cs =
    let front : Says = both (names_alone (codes "System.Enum" ∷ [])) (both (made_if false Maker.Flags) (cell_says (MadeBy Maker.Version))) in
    same_both front (own_name name cs) front (lines_say (flat_map (case_lines name false) cs)) (same_refl front) (cases_say name false cs)

-- ---- a struct

field_names : (fs : List FieldTree) → flat_map (λ f. names_in_use f.kind) fs ≡ (lines_say (map struct_field fs)).names
field_names [] = refl
field_names (f ∷ fs) =
    ap (λ (ns : List (List ℕ)). ns ++ flat_map (λ f. names_in_use f.kind) fs) (sym (append-nil ((names_in_use f.kind) ++ []) ∙ append-nil (names_in_use f.kind)))
    ∙ ap (λ (ns : List (List ℕ)). ((names_in_use f.kind ++ []) ++ []) ++ ns) (field_names fs)

field_makers : (fs : List FieldTree) → [] ≡ (lines_say (map struct_field fs)).makers
field_makers [] = refl
field_makers (f ∷ fs) = field_makers fs

field_specs : (fs : List FieldTree) → [] ≡ (lines_say (map struct_field fs)).specs
field_specs [] = refl
field_specs (f ∷ fs) = field_specs fs

pub struct_is : (name : List ℕ) (version : ℕ) (fs : List FieldTree) → Same (struct_says fs) (lines_say (lines_of (struct name version fs)))
struct_is name version fs =
    let front : Says = base_says (codes "System.ValueType") in
    let names : Says = names_alone (flat_map (λ f. names_in_use f.kind) fs) in
    same_both front names front (lines_say (map struct_field fs)) (same_refl front) (same_lists names (lines_say (map struct_field fs)) (field_names fs) (field_makers fs) (field_specs fs))

-- ---- a delegate

pub delegate_is : (name : List ℕ) (version id : ℕ) (sig : SignatureTree) → Same (delegate_says sig) (lines_say (lines_of (delegate name version id sig)))
delegate_is name version id sig =
    let front : Says = both (names_alone (codes "System.MulticastDelegate" ∷ [])) id_says in
    let names : Says = names_alone (names_in_signature sig) in
    let lines : List Line = signature_lines 0x09C6 3 (codes "Invoke") sig in
    same_both front names front (lines_say lines) (same_refl front) (same_back (lines_say lines) names (signature_say 0x09C6 3 (codes "Invoke") sig))

-- ---- an interface

owner_says : (owner : Option (List ℕ)) → Same (made_if (is_some owner) Maker.ExclusiveTo) (lines_say (owner_of_type owner))
owner_says None = same_refl nothing
owner_says (Some owner) = when_says true tables.TypeDef Maker.ExclusiveTo (type_argument owner)

maps_say : (ms : List MemberTree) → Same nothing (lines_say (map_lines ms))
maps_say ms = elim (list_any is_property ms) as (λ p. Same nothing (lines_say (when p (map_line tables.PropertyMap tables.Property ∷ []) ++ when (list_any is_event ms) (map_line tables.EventMap tables.Event ∷ [])))) [
  | true ↦ elim (list_any is_event ms) as (λ e. Same nothing (lines_say (map_line tables.PropertyMap tables.Property ∷ when e (map_line tables.EventMap tables.Event ∷ [])))) [
    | true ↦ same_refl nothing
    | false ↦ same_refl nothing
  ]
  | false ↦ elim (list_any is_event ms) as (λ e. Same nothing (lines_say (when e (map_line tables.EventMap tables.Event ∷ [])))) [
    | true ↦ same_refl nothing
    | false ↦ same_refl nothing
  ]
]

pub interface_is : (name : List ℕ) (version id : ℕ) (owner : Option (List ℕ)) (us : List UseTree) (ms : List MemberTree) → Same (interface_says owner us ms) (lines_say (lines_of (interface name version id owner us ms)))
interface_is name version id owner us ms =
    let own : Says = made_if (is_some owner) Maker.ExclusiveTo in
    let uses : Says = lines_say (map interface_line us) in
    let members : Says = lines_say (members_lines [] ms) in
    let rest : List Line = owner_of_type owner ++ (map interface_line us ++ (map_lines ms ++ members_lines [] ms)) in
    same_both id_says (both own (both uses members)) id_says (lines_say rest) (same_refl id_says)
    (behind (owner_of_type owner) (map interface_line us ++ (map_lines ms ++ members_lines [] ms)) own (both uses members) (owner_says owner)
    (behind (map interface_line us) (map_lines ms ++ members_lines [] ms) uses members (same_refl uses)
    (silent (map_lines ms) (members_lines [] ms) members (maps_say ms) (same_refl members))))

-- a row of an interface says what its cell says
pub interface_cell : (u : UseTree) → Same (cell_says (Type_ u)) (lines_say (interface_line u ∷ []))
interface_cell u =
    same_back (lines_say (interface_line u ∷ [])) (cell_says (Type_ u))
    (same_lists (lines_say (interface_line u ∷ [])) (cell_says (Type_ u)) (append-nil (named_by (Type_ u) ++ []) ∙ append-nil (named_by (Type_ u))) refl (append-nil (specs_in_cell (Type_ u) ++ []) ∙ append-nil (specs_in_cell (Type_ u))))

-- ---- a class

pub class_interface_is : (default : Option UseTree) (u : UseTree) → Same (both (cell_says (Type_ u)) (made_if (is_default default u) Maker.Default)) (lines_say (class_interface default u))
class_interface_is default u =
    behind (interface_line u ∷ []) (when (is_default default u) (attribute tables.InterfaceImpl Maker.Default [] ∷ [])) (cell_says (Type_ u)) (made_if (is_default default u) Maker.Default) (interface_cell u) (when_says (is_default default u) tables.InterfaceImpl Maker.Default [])

attributes_say : (maker : Maker) (version : ℕ) (names : List (List ℕ)) → Same (made_if (some_there names) maker) (lines_say (map (named_attribute maker version) names))
attributes_say maker version [] = same_refl nothing
attributes_say maker version (n ∷ ns) =
    let one : Says = cell_says (MadeBy maker) in
    let first : List Line = named_attribute maker version n ∷ [] in
    same_trans one (both one (made_if (some_there ns) maker)) (lines_say (first ++ map (named_attribute maker version) ns))
    (same_back (both one (made_if (some_there ns) maker)) one (more ns))
    (behind first (map (named_attribute maker version) ns) one (made_if (some_there ns) maker) (same_back (lines_say first) one (attribute_says tables.TypeDef maker (type_argument n ++ number_argument version))) (attributes_say maker version ns))
  where
    more : (ns : List (List ℕ)) → Same (both (cell_says (MadeBy maker)) (made_if (some_there ns) maker)) (cell_says (MadeBy maker))
    more [] = same_none (cell_says (MadeBy maker))
    more (n ∷ ns) = same_again (cell_says (MadeBy maker)) (cell_says (MadeBy maker)) refl (same_refl (cell_says (MadeBy maker)))

pub class_is : (name : List ℕ) (version : ℕ) (fixed : Bool) (default : Option UseTree) (us : List UseTree) (direct : Bool) (fs ss : List (List ℕ))
    → Same (class_says default us direct fs ss) (lines_say (lines_of (class name version fixed default us direct fs ss)))
class_is name version fixed default us direct fs ss =
    let front : Says = base_says (codes "System.Object") in
    let uses : Says = lines_say (flat_map (class_interface default) us) in
    let straight : List Line = when direct (attribute tables.TypeDef Maker.Activatable (number_argument version) ∷ []) in
    let factories : List Line = map (named_attribute Maker.Factory version) fs in
    let statics : List Line = map (named_attribute Maker.Static version) ss in
    let rest : List Line = flat_map (class_interface default) us ++ (straight ++ (factories ++ statics)) in
    same_both front (both uses (makings_say direct fs ss)) front (lines_say rest) (same_refl front)
    (behind (flat_map (class_interface default) us) (straight ++ (factories ++ statics)) uses (makings_say direct fs ss) (same_refl uses)
    (behind straight (factories ++ statics) (made_if direct Maker.Activatable) (both (made_if (some_there fs) Maker.Factory) (made_if (some_there ss) Maker.Static)) (when_says direct tables.TypeDef Maker.Activatable (number_argument version))
    (behind factories statics (made_if (some_there fs) Maker.Factory) (made_if (some_there ss) Maker.Static) (attributes_say Maker.Factory version fs) (attributes_say Maker.Static version ss))))

-- ---- whether there are some

pub some_is : {A : Type 0} (r : Bool) (xs : List A) → IsTrue r ↔ (xs ≡ []) → not r ≡ some_there xs
some_is true xs h = ap some_there (sym (h.0 refl))
some_is false [] h = absurd (let t = h.1 refl in cc)
some_is false (x ∷ xs) h = refl

pub own_is : (r : Bool) (name : List ℕ) (cs : List Case) → IsTrue r ↔ (cs ≡ []) → names_alone (if not r then name ∷ [] else []) ≡ own_name name cs
own_is r name cs h = ap (λ (b : Bool). names_alone (if b then name ∷ [] else [])) (some_is r cs h)

-- ---- lists of interfaces

pub interfaces_say : (us : List TypeUse) → Same (each (λ (u : TypeUse). cell_says (Type_ (tree_of u))) us) (lines_say (map interface_line (map tree_of us)))
interfaces_say [] = same_refl nothing
interfaces_say (u ∷ us) =
    behind (interface_line (tree_of u) ∷ []) (map interface_line (map tree_of us)) (cell_says (Type_ (tree_of u))) (each (λ (v : TypeUse). cell_says (Type_ (tree_of v))) us) (interface_cell (tree_of u)) (interfaces_say us)

pub class_interfaces_say : (default : Option UseTree) (us : List TypeUse) → Same (each (λ (u : TypeUse). lines_say (class_interface default (tree_of u))) us) (lines_say (flat_map (class_interface default) (map tree_of us)))
class_interfaces_say default [] = same_refl nothing
class_interfaces_say default (u ∷ us) =
    behind (class_interface default (tree_of u)) (flat_map (class_interface default) (map tree_of us)) (lines_say (class_interface default (tree_of u))) (each (λ (v : TypeUse). lines_say (class_interface default (tree_of v))) us) (same_refl (lines_say (class_interface default (tree_of u)))) (class_interfaces_say default us)
