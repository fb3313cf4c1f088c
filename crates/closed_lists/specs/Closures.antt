-- Declarations with their lists closed.
use Rattle.std.specs.Prelude.{◌≡◌, ◌↔◌, ℕ, IsTrue, List, [], ◌∷◌, drop, Contains}
use Rattle.wr_base.specs.declared.declaration.Declaration.{Declaration}
use Rattle.wr_base.specs.declared.declaration.Declaration.TheVariants.{Enum, Struct, Delegate, Interface, Class}
use Rattle.wr_base.specs.declared.type_use.TypeUse.{TypeUse}
use Rattle.wr_rules.specs.Closures.{Closed, lists}
use Rattle.wr_rules.specs.ListRules.{listed_in}
use Rattle.wr_rules.specs.Sites.{Site}
use Rattle.closed_lists.specs.Closing.{uses_from}

-- what a list leads to, by text, each use as it is written in the list or where it is required
pub record IsClosure (types : List Declaration) (list : List TypeUse) (whole : List TypeUse) : Type 0 where
  pub texts : (text : List ℕ) → IsTrue (lists whole text) ↔ Closed types list text
  pub written : (u : TypeUse) → Contains whole u → Contains (uses_from types list) u

-- a declaration with this list as its `requires` or `has`
abbrev pub with_list : List TypeUse → Declaration → Declaration
with_list whole (Interface name version id owner requires_ members) = Interface name version id owner whole members
with_list whole (Class name version fixed default has direct factories statics) = Class name version fixed default whole direct factories statics
with_list whole (Enum name version flags cases) = Enum name version flags cases
with_list whole (Struct name version fields) = Struct name version fields
with_list whole (Delegate name version id invoke) = Delegate name version id invoke

-- a declaration with its list closed
abbrev pub Closes : List Declaration → Declaration → Declaration → Type 0
Closes types open_ closed = (whole : List TypeUse) × IsClosure types (listed_in open_) whole × (closed ≡ with_list whole open_)

-- the same, where it stands
pub record IsClosing (types : List Declaration) (open_ : Site) (closed : Site) : Type 0 where
  pub decl : Closes types open_.decl closed.decl
  pub places : closed.places ≡ open_.places

-- the list of a declaration at its place leads to these uses
abbrev pub Leads : List Declaration → Site → List TypeUse → Type 0
Leads types s whole = IsClosure types (listed_in s.decl) whole

-- a declaration at its place with the first of these lists, if there is one
abbrev pub next_site : Site → List (List TypeUse) → Site
next_site s [] = s
next_site s (whole ∷ wholes) = record { decl = with_list whole s.decl; places = s.places }

-- declarations at their places, each with the list at its index
abbrev pub with_lists : List Site → List (List TypeUse) → List Site
with_lists [] wholes = []
with_lists (s ∷ ss) wholes = next_site s wholes ∷ with_lists ss (drop 1 wholes)
