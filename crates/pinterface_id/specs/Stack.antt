-- What is left to write of a signature.
use Rattle.std.specs.Prelude.{◌≡◌, ◌<◌, ◌+◌, ◌-◌, ℕ, suc, Bool, true, false, cond, List, [], ◌∷◌, ◌++◌, Option, Some, None, length, map, reverse, sum_by, slice_get, slice_index_or, slice_set, option_map}
use Rattle.wr_base.specs.Declarations.{name_of}
use Rattle.wr_base.specs.declared.declaration.Declaration.{Declaration}
use Rattle.found_table.specs.Found.{FoundRow}
use Rattle.wr_rules.specs.Kinds as kinds
use Rattle.wr_base.specs.Trees.{UseTree, tree_of}
use Rattle.wr_rules.specs.Signatures.{Piece, semicolon, closing, is_open, joined, pieces_of, pieces_in}
use Rattle.pinterface_id.specs.declared.stack.Work.{Work}
use Rattle.pinterface_id.specs.declared.stack.Work.TheVariants.{Part, Close, Leave}

pub data Item : Type 0 where
  part : UseTree → Item
  close : Item
  leave : ℕ → Item

abbrev pub item_of : Work → Item
item_of (Part u) = part (tree_of u.now)
item_of Close = close
item_of (Leave i) = leave i

-- from the last one on
abbrev pub items_of : List Work → List Item
items_of works = reverse (map item_of works)

abbrev pub name_in : Option Declaration → List ℕ
name_in None = []
name_in (Some d) = name_of d

abbrev pub put : List ℕ → Option (List ℕ) → Option (List ℕ)
put text rest = option_map (λ r. text ++ r) rest

abbrev pub closed_at : Bool → ℕ
closed_at b = cond b 0 1

module _ (types : List Declaration) where
  abbrev pub name_at : ℕ → List ℕ
  name_at i = name_in (slice_get types i)

  -- the structs and classes that are open
  abbrev pub names_open : List Item → List (List ℕ)
  names_open [] = []
  names_open (part u ∷ st) = names_open st
  names_open (close ∷ st) = names_open st
  names_open (leave i ∷ st) = name_at i ∷ names_open st

  -- the pieces that are left
  abbrev pub rest : List Item → List Piece
  rest [] = []
  rest (part u ∷ st) = semicolon ∷ pieces_of types (names_open st) u ++ rest st
  rest (close ∷ st) = closing ∷ rest st
  rest (leave i ∷ st) = closing ∷ rest st

  -- each open one once
  abbrev pub Apart : List Item → Type 0
  Apart [] = Unit {0}
  Apart (part u ∷ st) = Apart st
  Apart (close ∷ st) = Apart st
  Apart (leave i ∷ st) = (is_open (names_open st) (name_at i) ≡ false) × (i < length types) × Apart st

  -- the flags say what is open
  pub record Opened (open_ : List Bool) (st : List Item) : Type 0 where
    pub apart : Apart st
    pub flags : (i : ℕ) → i < length types → slice_index_or open_ i false ≡ is_open (names_open st) (name_at i)
    pub size : length open_ ≡ length types
    pub depth : length (names_open st) + sum_by closed_at open_ ≡ length types

  -- pieces are written, or turned into work
  pub record Moved (whole : List Piece) (open_ : List Bool) (st : List Item) (old : List ℕ) (new : List ℕ) : Type 0 where
    pub opened : Opened open_ st
    pub written : List ℕ
    pub text : new ≡ old ++ written
    pub same : joined whole ≡ put written (joined (rest st))
    pub less : length (rest st) < length whole

  -- the same, or there is no signature
  abbrev pub Entered : Bool → List Piece → List Bool → List Item → List ℕ → List ℕ → Type 0
  Entered true whole open_ st old new = Moved whole open_ st old new
  Entered false whole open_ st old new = joined whole ≡ None

-- what stands within a struct or class that is entered here
abbrev pub deeper : List Declaration → List (List ℕ) → List (List ℕ) → UseTree → List Piece
deeper types inside = pieces_in types (length types + 1 - suc (length inside))

-- the id of a template
abbrev pub template_id : Option kinds.Meaning → Option ℕ
template_id (Some (kinds.found (FoundRow.Interface name arguments id members))) = Some id
template_id (Some (kinds.found (FoundRow.Delegate name arguments id params))) = Some id
template_id _ = None

-- a struct or a class of this name stands at this place
pub record IsNamed (types : List Declaration) (i : ℕ) (name : List ℕ) : Type 0 where
  pub within : i < length types
  pub named : name_at types i ≡ name

-- the head of a struct or a class is written, which wasn't open and now is; or it was, and is closed at once
abbrev pub Opens : Bool → ℕ → List ℕ → List Bool → List Item → List ℕ → List Bool → List Item → List ℕ → Type 0
Opens true i head open_ st old now ahead new = (slice_index_or open_ i false ≡ false) × (now ≡ slice_set open_ i true) × (ahead ≡ leave i ∷ st) × (new ≡ old ++ head)
Opens false i head open_ st old now ahead new = (slice_index_or open_ i false ≡ true) × (now ≡ open_) × (ahead ≡ st) × (new ≡ old ++ (head ++ 41 ∷ []))
