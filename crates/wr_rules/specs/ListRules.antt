-- Rules on what interfaces require, what classes have, and structs within structs.
use Rattle.std.specs.Prelude.{◌≡◌, ◌≢◌, ◌⊎◌, ℕ, Bool, true, false, not, ◌&&◌, ◌||◌, IsTrue, List, [], ◌∷◌, ◌++◌, Option, Some, None, ◌==◌, if◌then◌else◌, map}
use Rattle.std.specs.List.{list_any}
use Rattle.std.specs.Str.{bytes_eq}
use Rattle.ranked.specs.Entries.{Entry}
use Rattle.ranked.specs.First.{Only}
use Rattle.wr_base.specs.Uses.{text_of}
use Rattle.wr_base.specs.declared.code.Code.TheVariants.{NotClosed, DefaultMissing, StructCycle, RequiresCycle, MemberClash, StaticMembers}
use Rattle.wr_base.specs.declared.type_use.TypeUse.{TypeUse}
use Rattle.wr_base.specs.declared.declaration.Declaration.{Declaration}
use Rattle.wr_base.specs.declared.declaration.Declaration.TheVariants.{Enum, Struct, Delegate, Interface, Class}
use Rattle.wr_base.specs.Paths.{is_path}
use Rattle.wr_rules.specs.Kinds.{meaning_of}
use Rattle.wr_rules.specs.Sites.{Site, spot_of, site_name, broken_at, If}
use Rattle.wr_rules.specs.Members.{names_within}
use Rattle.wr_rules.specs.MemberRules.{shares}
use Rattle.wr_rules.specs.Closures.{Chain, Closed, required_at, lists, Holds}

-- the name that a text begins with
abbrev pub head_of : List ℕ → List ℕ
head_of [] = []
head_of (b ∷ bs) = if b == 60 then [] else b ∷ head_of bs

-- the list that stands for a set: requires of an interface, has of a class
abbrev pub listed_in : Declaration → List TypeUse
listed_in (Interface name version id owner requires_ members) = requires_
listed_in (Class name version fixed default has direct factories statics) = has
listed_in _ = []

-- there is none
abbrev pub is_empty : {X : Type 0} → List X → Bool
is_empty [] = true
is_empty (x ∷ xs) = false

module _ (types : List Declaration) where
  -- each interface of a list requires what is listed too
  abbrev pub lacks : List TypeUse → Bool
  lacks list = list_any (λ u. list_any (λ r. not (lists list (text_of r))) (required_at types (text_of u))) list

  -- `requires` or `has` lacks what one of its interfaces requires
  abbrev pub IsNotClosed : Site → Entry → Type 0
  IsNotClosed s = If (lacks (listed_in s.decl)) NotClosed (spot_of s)

  -- a class with direct or factories has no default, or the default isn't in has
  abbrev pub default_fails : Option TypeUse → List TypeUse → Bool → Bool
  default_fails None has makes = makes
  default_fails (Some u) has makes = not (lists has (text_of u))

  -- a class that can be made lacks its default
  abbrev pub misses_default : Declaration → Bool
  misses_default (Class name version fixed default has direct factories statics) = default_fails default has (direct || not (is_empty factories))
  misses_default _ = false

  -- a class with direct or factories has no default, or the default is not in `has`
  abbrev pub IsDefaultMissing : Site → Entry → Type 0
  IsDefaultMissing s = If (misses_default s.decl) DefaultMissing (spot_of s)

  -- a struct holds itself, at any depth
  abbrev pub IsStructCycle : Site → Entry → Type 0
  IsStructCycle s = Only (Chain (Holds types) (site_name s) (site_name s)) (broken_at StructCycle (spot_of s))

  -- an interface is in its closed requires
  abbrev pub RequiresItself : Declaration → Type 0
  RequiresItself (Interface name version id owner requires_ members) = Closed types requires_ name
  RequiresItself (Enum name version flags cases) = ⊥
  RequiresItself (Struct name version fields) = ⊥
  RequiresItself (Delegate name version id invoke) = ⊥
  RequiresItself (Class name version fixed default has direct factories statics) = ⊥

  -- an interface is in its closed `requires`
  abbrev pub IsRequiresCycle : Site → Entry → Type 0
  IsRequiresCycle s = Only (RequiresItself s.decl) (broken_at RequiresCycle (spot_of s))

  -- the names of members and of accessors of the type whose name a text begins with
  abbrev pub names_at : List ℕ → List (List ℕ)
  names_at text = if is_path (head_of text) then names_within (meaning_of types (head_of text)) else []

  -- two interfaces of a set of texts share a member's or an accessor's name
  pub record Clash (Has : List ℕ → Type 0) : Type 0 where
    pub s : List ℕ
    pub t : List ℕ
    pub first : Has s
    pub second : Has t
    pub apart : s ≢ t
    pub shared : IsTrue (shares (names_at s) (names_at t))

  -- the same among the texts of a list
  abbrev pub clash_of : List (List ℕ) → Bool
  clash_of texts = list_any (λ s. list_any (λ t. not (bytes_eq s t) && shares (names_at s) (names_at t)) texts) texts

  -- an interface and what it requires, at any depth
  abbrev pub InClosure : List ℕ → List TypeUse → List ℕ → Type 0
  InClosure name requires_ text = (text ≡ name) ⊎ Closed types requires_ text

  -- the two lists share a name
  abbrev pub meets : List (List ℕ) → List (List ℕ) → Bool
  meets names others = list_any (λ n. list_any (bytes_eq n) others) names

  -- one interface in two of the three lists
  abbrev pub stands_twice : List TypeUse → List (List ℕ) → List (List ℕ) → Bool
  stands_twice has factories statics = meets (map text_of has) factories || meets (map text_of has) statics || meets factories statics

  -- two interfaces of an interface's closure or of a class's `has` and `statics` share a name, or one stands in two of a class's lists
  abbrev pub Clashes : Declaration → Type 0
  Clashes (Interface name version id owner requires_ members) = Clash (InClosure name requires_)
  Clashes (Class name version fixed default has direct factories statics) = IsTrue (clash_of (map text_of has ++ statics) || stands_twice has factories statics)
  Clashes (Enum name version flags cases) = ⊥
  Clashes (Struct name version fields) = ⊥
  Clashes (Delegate name version id invoke) = ⊥

  -- it stands at the declaration
  abbrev pub IsMemberClash : Site → Entry → Type 0
  IsMemberClash s = Only (Clashes s.decl) (broken_at MemberClash (spot_of s))

  -- a fixed class is direct or has factories or interfaces
  abbrev pub fixed_with : Declaration → Bool
  fixed_with (Class name version fixed default has direct factories statics) = fixed && (direct || not (is_empty factories) || not (is_empty has))
  fixed_with _ = false

  -- it stands at the class
  abbrev pub IsStaticMembers : Site → Entry → Type 0
  IsStaticMembers s = If (fixed_with s.decl) StaticMembers (spot_of s)
