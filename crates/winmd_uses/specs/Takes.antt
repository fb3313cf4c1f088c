-- What is taken in one pass over a set, one after the other: names and constructors as sets, instances in the order in which they are first used.
use Rattle.std.specs.Prelude.{◌≡◌, ℕ, ◌||◌, ◌&&◌, not, Bool, false, bytes_eq, List, [], ◌∷◌, ◌++◌, map, get_or, string_bytes}
use Rattle.std.specs.List.{list_any}
use Rattle.std.specs.BTreeSet.{contains_text}
use Rattle.wr_base.specs.Declarations.{name_of}
use Rattle.wr_base.specs.Trees.{UseTree}
use Rattle.winmd_lines.specs.Lines.{Drawn, Line}
use Rattle.winmd_lines.specs.Makers.{Maker, maker_number}
use Rattle.winmd_lines.specs.Names.{is_declared, is_maker, used, names_in_cell, specs_in_cell, makers_in_cell}
use Rattle.winmd_sets.specs.Rows.{made_lines}
use Rattle.winmd_uses.specs.Instances.{Agrees, add_once, all_of}
use Rattle.winmd_uses.specs.declared.used.Used.{Used}

-- ---- what there is

-- the full names that the set declares
abbrev pub types_in : Used → List (List ℕ)
types_in u = map name_of u.types.now

-- a name that has no TypeDef
abbrev pub is_foreign : Used → List ℕ → Bool
is_foreign u name = not (is_declared (types_in u) name)

abbrev pub has_name : Used → List ℕ → Bool
has_name u name = contains_text u.names.set name

-- the same as a list, in order
abbrev pub all_names : Used → List (List ℕ)
all_names u = map string_bytes u.names.set.keys

abbrev pub has_maker : Used → Maker → Bool
has_maker u maker = get_or u.makers (maker_number maker) false

abbrev pub instances_of : Used → List UseTree
instances_of u = all_of u.instances

-- ---- what is taken

-- one after the other, each unless it is there
abbrev pub add_each : List UseTree → List UseTree → List UseTree
add_each us [] = us
add_each us (v ∷ vs) = add_each (add_once us v) vs

-- names, constructors and instances that something uses
pub record Says : Type 0 where
  pub names : List (List ℕ)
  pub makers : List Maker
  pub specs : List UseTree

abbrev pub names_alone : List (List ℕ) → Says
names_alone names = record { names = names; makers = []; specs = [] }

abbrev pub spec_alone : UseTree → Says
spec_alone u = record { names = []; makers = []; specs = u ∷ [] }

abbrev pub maker_alone : Maker → Says
maker_alone maker = record { names = []; makers = maker ∷ []; specs = [] }

abbrev pub both : Says → Says → Says
both a b = record { names = a.names ++ b.names; makers = a.makers ++ b.makers; specs = a.specs ++ b.specs }

-- the names in a cell, and in the row of the constructor or the instance that it leads to
abbrev pub named_by : Drawn → List (List ℕ)
named_by cell = names_in_cell cell ++ used names_in_cell (made_lines (specs_in_cell cell) (makers_in_cell cell))

abbrev pub cell_says : Drawn → Says
cell_says cell = record { names = named_by cell; makers = makers_in_cell cell; specs = specs_in_cell cell }

abbrev pub lines_say : List Line → Says
lines_say lines = record { names = used named_by lines; makers = used makers_in_cell lines; specs = used specs_in_cell lines }

-- so much more is taken, of names those that the set doesn't declare
pub record Takes (says : Says) (old new : Used) : Type 0 where
  pub types : new.types.now ≡ old.types.now
  pub names : (name : List ℕ) → has_name new name ≡ (has_name old name || (is_foreign old name && list_any (bytes_eq name) says.names))
  pub makers : (maker : Maker) → has_maker new maker ≡ (has_maker old maker || list_any (is_maker maker) says.makers)
  pub agrees : Agrees old.instances → Agrees new.instances
  pub specs : Agrees old.instances → instances_of new ≡ add_each (instances_of old) says.specs

-- nothing is taken
pub record IsEmpty (new : Used) : Type 0 where
  pub names : (name : List ℕ) → has_name new name ≡ false
  pub makers : (maker : Maker) → has_maker new maker ≡ false
  pub agrees : Agrees new.instances
  pub specs : instances_of new ≡ []
