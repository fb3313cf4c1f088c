-- Rules over the whole set: namespaces and ids.
use Rattle.std.specs.Prelude.{◌≡◌, ◌≢◌, ◌⊎◌, ◌==◌, ℕ, Bool, true, false, ◌&&◌, List, [], ◌∷◌, ◌++◌, Option, Some, None, Contains, IsTrue, map, length, slice_get, if◌then◌else◌}
use Rattle.std.specs.List.{list_any, filter_map, flat_map}
use Rattle.std.specs.Str.{bytes_eq}
use Rattle.ranked.specs.Entries.{Entry}
use Rattle.ranked.specs.First.{Below, At, Only}
use Rattle.wr_base.specs.declared.code.Code.TheVariants.{NamespaceClash, DuplicateId}
use Rattle.wr_base.specs.declared.declaration.Declaration.{Declaration}
use Rattle.found_table.specs.Found.{FoundRow}
use Rattle.found_table.specs.Table.{table, name_of as found_name}
use Rattle.wr_base.specs.Trees.{UseTree, instance, within, text_of_tree}
use Rattle.wr_rules.specs.Kinds.{declared, found}
use Rattle.wr_rules.specs.Sites.{Site, site_name, spot_of, broken_at, StandsBefore}
use Rattle.wr_base.specs.Lower.{lower}
use Rattle.wr_rules.specs.Uses.{Used, uses_at}
use Rattle.wr_rules.specs.Signatures.{own_id, id_of}

-- ---- namespaces

-- a text with a dot behind it begins another one
abbrev pub begins : List ℕ → List ℕ → Bool
begins [] [] = false
begins [] (b ∷ bs) = b == 46
begins (a ∷ as_) [] = false
begins (a ∷ as_) (b ∷ bs) = a == b && begins as_ bs

-- a namespace holds a type of this name
abbrev pub holds : List ℕ → List ℕ → Bool
holds space name = begins (lower space) (lower name)

-- the two are one but for case
abbrev pub same_lower : List ℕ → List ℕ → Bool
same_lower a b = bytes_eq (lower a) (lower b)

-- the names of all declared and found types
abbrev pub all_names : List Site → List (List ℕ)
all_names sites = map site_name sites ++ map found_name table

-- an earlier type has this name but for case
pub record TakenBefore (sites : List Site) (k : ℕ) (name : List ℕ) : Type 0 where
  pub j : ℕ
  pub other : Site
  pub at : slice_get sites j ≡ Some other
  pub before : StandsBefore sites j k
  pub same : IsTrue (same_lower (site_name other) name)

-- the name of a namespace that holds a type, of a found type, or of an earlier one
abbrev pub NamesClash : List Site → ℕ → List ℕ → Type 0
NamesClash sites k name = IsTrue (list_any (holds name) (all_names sites)) ⊎ IsTrue (list_any (λ row. same_lower (found_name row) name) table) ⊎ TakenBefore sites k name

-- it stands at the type
abbrev pub IsNamespaceClash : List Site → Entry → Type 0
IsNamespaceClash sites = Below (length sites) (λ k. At sites (λ s. Only (NamesClash sites k (site_name s)) (broken_at NamespaceClash (spot_of s))) k)

-- ---- ids

-- IUnknown, IInspectable, IActivationFactory
abbrev pub fixed_ids : List ℕ
fixed_ids = 0xc000000000000046 ∷ 0xaf86e2e0b12d4c6a9c5ad7aa65101e90 ∷ 0x3500000000c000000000000046 ∷ []

-- the id of a found type
abbrev pub found_id : FoundRow → Option ℕ
found_id row = own_id (Some (found row))

-- the ids of found types, of IUnknown, IInspectable and IActivationFactory
abbrev pub reserved_ids : List ℕ
reserved_ids = fixed_ids ++ filter_map found_id table

-- an instance of a template
abbrev pub is_instance : UseTree → Bool
is_instance (instance name arguments) = true
is_instance _ = false

-- the instances that a declaration uses, at any depth
abbrev pub instances_at : Site → List UseTree
instances_at s = flat_map (λ (u : Used). filter_map (λ v. if is_instance v then Some v else None) (within u.use_)) (uses_at s)

-- the instances that a set uses, declaration by declaration
abbrev pub instances_in : List Site → List UseTree
instances_in = flat_map instances_at

-- a declaration uses an instance of this text
abbrev pub UsesText : List Site → ℕ → List ℕ → Type 0
UsesText sites k text = (s : Site) × (v : UseTree) × (slice_get sites k ≡ Some s) × Contains (instances_at s) v × (text_of_tree v ≡ text)

-- the first of these uses that has this text
abbrev pub first_of : List UseTree → List ℕ → Option UseTree
first_of [] text = None
first_of (v ∷ vs) text = if bytes_eq (text_of_tree v) text then Some v else first_of vs text

-- this declaration uses an instance of this text, and none before it does
pub record FirstUses (sites : List Site) (k : ℕ) (text : List ℕ) : Type 0 where
  pub uses : UsesText sites k text
  pub none : (j : ℕ) → StandsBefore sites j k → ¬ (UsesText sites j text)

-- an id with the text of what has it, at the declaration that has it or is the first to use it; the id of a text is that of its first use in the set
pub data Stands (types : List Declaration) (sites : List Site) (k : ℕ) : List ℕ → ℕ → Type 0 where
  own : {id : ℕ} (s : Site) → slice_get sites k ≡ Some s → own_id (Some (declared s.decl)) ≡ Some id → Stands types sites k (site_name s) id
  first_used : {text : List ℕ} {id : ℕ} (v : UseTree) → first_of (instances_in sites) text ≡ Some v → id_of types v ≡ Some id → FirstUses sites k text → Stands types sites k text id

-- an id is reserved, or another one's that stands at an earlier declaration or at the same
abbrev pub IsTaken : List Declaration → List Site → ℕ → Type 0
IsTaken types sites k =
    (text : List ℕ) × (id : ℕ) × Stands types sites k text id
    × (Contains reserved_ids id
    ⊎ ((j : ℕ) × (other : List ℕ) × ((j ≡ k) ⊎ StandsBefore sites j k) × Stands types sites j other id × (other ≢ text)))

-- it stands at the declaration that has the id, or that uses the instance first
abbrev pub IsDuplicateId : List Declaration → List Site → Entry → Type 0
IsDuplicateId types sites = Below (length sites) (λ k. At sites (λ s. Only (IsTaken types sites k) (broken_at DuplicateId (spot_of s))) k)
