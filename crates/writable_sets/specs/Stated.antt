-- What rows state of a declaration that no rule asks.
use Rattle.std.specs.Prelude.{◌≡◌, ◌<◌, ◌^◌, ◌⊎◌, ℕ, true, false, ⊤, List, Option, Some, None, map}
use Rattle.std.specs.List.{All, Contains}
use Rattle.std.specs.Str.{bytes_eq}
use Rattle.sig_blobs.specs.Elements.{system_guid}
use Rattle.winmd_lines.specs.Orders.{Rising}
use Rattle.winmd_sets.specs.Fits.{IsName}
use Rattle.wr_base.specs.Declarations.{name_of}
use Rattle.wr_base.specs.Paths.{is_path}
use Rattle.wr_base.specs.Places.{plain_from}
use Rattle.wr_base.specs.Trees.{UseTree, plain, value, reference, instance, within}
use Rattle.wr_base.specs.Uses.{text_of}
use Rattle.wr_base.specs.declared.declaration.Declaration.{Declaration}
use Rattle.wr_base.specs.declared.declaration.Declaration.TheVariants.{Enum, Struct, Delegate, Interface, Class}
use Rattle.wr_rules.specs.Sites.{Site, sites_of}
use Rattle.wr_rules.specs.Uses.{Used, uses_at}

-- the version has 32 bits, and the id of an interface or a delegate 128
abbrev pub HasWidths : Declaration → Type 0
HasWidths (Enum name version flags cases) = version < 2 ^ 32
HasWidths (Struct name version fields) = version < 2 ^ 32
HasWidths (Delegate name version id invoke) = (version < 2 ^ 32) × (id < 2 ^ 128)
HasWidths (Interface name version id owner requires_ members) = (version < 2 ^ 32) × (id < 2 ^ 128)
HasWidths (Class name version fixed default has direct factories statics) = version < 2 ^ 32

-- lists stand in the order of texts, each once
abbrev pub HasOrder : Declaration → Type 0
HasOrder (Enum name version flags cases) = ⊤
HasOrder (Struct name version fields) = ⊤
HasOrder (Delegate name version id invoke) = ⊤
HasOrder (Interface name version id owner requires_ members) = Rising text_of requires_
HasOrder (Class name version fixed default has direct factories statics) = Rising text_of has × Rising (λ name. name) factories × Rising (λ name. name) statics

-- a value of this name is the base type Guid (ECMA-335 II.23.1.16)
abbrev pub NotGuid : UseTree → Type 0
NotGuid (plain base) = ⊤
NotGuid (value name) = bytes_eq name system_guid ≡ false
NotGuid (reference name) = ⊤
NotGuid (instance name arguments) = ⊤

-- no use, at any depth, is a value of System.Guid
abbrev pub NoGuid : List Declaration → Type 0
NoGuid types = All (λ (s : Site). All (λ (u : Used). All NotGuid (within u.use_)) (uses_at s)) (sites_of types (plain_from 0 types))

-- the class that an interface is for alone
abbrev pub owner_of : Declaration → Option (List ℕ)
owner_of (Interface name version id owner requires_ members) = owner
owner_of (Enum name version flags cases) = None
owner_of (Struct name version fields) = None
owner_of (Delegate name version id invoke) = None
owner_of (Class name version fixed default has direct factories statics) = None

-- it is declared, or a path within the limits, as of an image that doesn't declare it
abbrev pub IsOwned : List Declaration → Option (List ℕ) → Type 0
IsOwned types None = ⊤
IsOwned types (Some owner) = Contains (map name_of types) owner ⊎ IsName owner

-- a declaration of a set whose full name is a path, with its widths, lists in order and an owner that rows can state
pub record IsStated (types : List Declaration) (d : Declaration) : Type 0 where
  pub path : is_path (name_of d) ≡ true
  pub widths : HasWidths d
  pub order : HasOrder d
  pub owner : IsOwned types (owner_of d)
