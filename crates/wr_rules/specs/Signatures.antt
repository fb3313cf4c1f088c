-- Signatures of uses and ids of instances (Windows Runtime type system; RFC 9562, 5.5).
use Rattle.std.specs.Prelude.{ℕ, zero, suc, ◌+◌, ◌-◌, Bool, true, false, List, [], ◌∷◌, ◌++◌, Option, Some, None, codes, map, take, length, if◌then◌else◌}
use Rattle.std.specs.List.{flat_map, list_any}
use Rattle.std.specs.Option.{option_map}
use Rattle.std.specs.Str.{bytes_eq}
use Rattle.std.specs.Int.{to_be_bytes, from_be_bytes}
use mir.Syntax.{w128}
use Rattle.uuid.specs.Text.{hyphenated_text, lower}
use Rattle.uuid.specs.Parts.{with_variant, with_version}
use Rattle.uuid.specs.declared.Variant.TheVariants.{RFC4122}
use Rattle.uuid.specs.declared.Version.TheVariants.{Sha1}
use Rattle.sha1.specs.Sha1.{sha1}
use Rattle.wr_base.specs.declared.type_use.Base.{Base}
use Rattle.wr_base.specs.declared.type_use.Base.TheVariants.{Boolean, Char, U8, I16, U16, I32, U32, I64, U64, Text, Guid, Object}
use Rattle.wr_base.specs.declared.type_use.TypeUse.{TypeUse}
use Rattle.wr_base.specs.declared.declaration.Declaration.{Declaration}
use Rattle.wr_base.specs.declared.declaration.Declaration.TheVariants.{Enum, Struct, Delegate, Interface, Class}
use Rattle.found_table.specs.Found.{FoundUseRow, FoundRow}
use Rattle.wr_rules.specs.Kinds.{option_list}
use Rattle.wr_base.specs.Trees.{UseTree, plain, value, reference, instance, UseTrees, no_uses, use_and, tree_of, list_of}
use Rattle.wr_rules.specs.Kinds.{Meaning, declared, found, named}

-- the signature of a base type
abbrev pub base_text : Base → List ℕ
base_text Boolean = codes "b1"
base_text Char = codes "c2"
base_text U8 = codes "u1"
base_text I16 = codes "i2"
base_text U16 = codes "u2"
base_text I32 = codes "i4"
base_text U32 = codes "u4"
base_text I64 = codes "i8"
base_text U64 = codes "u8"
base_text Text = codes "string"
base_text Guid = codes "g16"
base_text Object = codes "cinterface(IInspectable)"

-- an id as it is written, lower-case and hyphenated, in braces
abbrev pub braced : ℕ → List ℕ
braced id = 123 ∷ hyphenated_text lower (to_be_bytes w128 id) ++ 125 ∷ []

-- a piece of a signature, or none where a name means nothing
abbrev pub Piece : Type 0
Piece = Option (List ℕ)

-- what stands before a part
abbrev pub semicolon : Piece
semicolon = Some (59 ∷ [])

-- what stands behind the last part
abbrev pub closing : Piece
closing = Some (41 ∷ [])

-- a part behind a semicolon
abbrev pub part : List Piece → List Piece
part pieces = semicolon ∷ pieces

-- word(head;part;part)
abbrev pub grouped : List ℕ → List ℕ → List (List Piece) → List Piece
grouped word head parts = Some (word ++ 40 ∷ head) ∷ flat_map part parts ++ closing ∷ []

-- the text, where each piece is there
abbrev pub joined : List Piece → Option (List ℕ)
joined [] = Some []
joined (None ∷ ps) = None
joined (Some t ∷ ps) = option_map (λ rest. t ++ rest) (joined ps)

-- the name is one of those around
abbrev pub is_open : List (List ℕ) → List ℕ → Bool
is_open inside name = list_any (λ n. bytes_eq n name) inside

-- the type below an enum
abbrev pub flags_text : Bool → List ℕ
flags_text true = codes "u4"
flags_text false = codes "i4"

-- found structs have fields of base types alone
abbrev pub found_piece : FoundUseRow → Piece
found_piece (FoundUseRow.Plain base) = Some (base_text base)
found_piece (FoundUseRow.Named name) = None
found_piece (FoundUseRow.Argument n) = None

-- the text of a template's instance
abbrev pub instance_pieces : Option Meaning → List (List Piece) → List Piece
instance_pieces (Some (found (FoundRow.Interface name arguments id members))) parts = grouped (codes "pinterface") (braced id) parts
instance_pieces (Some (found (FoundRow.Delegate name arguments id params))) parts = grouped (codes "pinterface") (braced id) parts
instance_pieces _ parts = None ∷ []

module _ (types : List Declaration) where
  -- one level of names: what stands within a struct or a class is given by `deeper`, which knows the names around
  module _ (deeper : List (List ℕ) → UseTree → List Piece) (inside : List (List ℕ)) where
    -- a struct or class that is met again within itself is written without its parts
    abbrev pub nested : List ℕ → List ℕ → List TypeUse → List Piece
    nested word name uses = grouped word name (if is_open inside name then [] else map (λ u. deeper (name ∷ inside) (tree_of u)) uses)

    -- the pieces of a declared type
    abbrev pub declared_pieces : Declaration → List Piece
    declared_pieces (Enum name version flags cases) = grouped (codes "enum") name ((Some (flags_text flags) ∷ []) ∷ [])
    declared_pieces (Struct name version fields) = nested (codes "struct") name (map (λ f. f.ty) fields)
    declared_pieces (Delegate name version id invoke) = grouped (codes "delegate") (braced id) []
    declared_pieces (Interface name version id owner requires_ members) = Some (braced id) ∷ []
    declared_pieces (Class name version fixed default has direct factories statics) = nested (codes "rc") name (option_list default)

    -- the pieces of a found type
    abbrev pub found_pieces : FoundRow → List Piece
    found_pieces (FoundRow.Struct name fields) = grouped (codes "struct") name (map (λ p. found_piece p.type_ ∷ []) fields)
    found_pieces (FoundRow.Interface name arguments id members) = Some (braced id) ∷ []
    found_pieces (FoundRow.Delegate name arguments id params) = grouped (codes "delegate") (braced id) []

    -- the pieces of what a name means
    abbrev pub meaning_pieces : Option Meaning → List Piece
    meaning_pieces None = None ∷ []
    meaning_pieces (Some (declared d)) = declared_pieces d
    meaning_pieces (Some (found row)) = found_pieces row

    abbrev mutual
      pub level_pieces : UseTree → List Piece
      level_pieces (plain base) = Some (base_text base) ∷ []
      level_pieces (value name) = meaning_pieces (named types name 0)
      level_pieces (reference name) = meaning_pieces (named types name 0)
      level_pieces (instance name arguments) = instance_pieces (named types name (length (list_of arguments))) (pieces_among arguments)

      pub pieces_among : UseTrees → List (List Piece)
      pieces_among no_uses = []
      pieces_among (use_and u us) = level_pieces u ∷ pieces_among us

  -- within so many levels of names
  abbrev pub pieces_in : ℕ → List (List ℕ) → UseTree → List Piece
  pieces_in zero inside u = None ∷ []
  pieces_in (suc n) inside u = level_pieces (pieces_in n) inside u

  -- a name is open at most once, so there are no more levels than declarations, and one for what stands outside of all
  abbrev pub pieces_of : List (List ℕ) → UseTree → List Piece
  pieces_of inside u = pieces_in (length types + 1 - length inside) inside u

  -- the signature of a use, if it has one
  unfoldable pub signature_text : UseTree → Option (List ℕ)
  signature_text u = joined (pieces_of [] u)

-- the version 5 identifier of a name in a namespace, as a number with the high byte first
unfoldable pub version_5 : ℕ → List ℕ → ℕ
version_5 space name = from_be_bytes w128 (with_version (with_variant (take 16 (sha1 (to_be_bytes w128 space ++ name))) RFC4122) Sha1)

-- the namespace of the ids of instances (Windows Runtime type system)
abbrev pub instances_space : ℕ
instances_space = 0x11f47ad57b7342c0abae878b1e16adee

-- the namespace of the ids of names, which is the project's own
abbrev pub names_space : ℕ
names_space = 0x6f1c2a5e3b0d5c479e210a4d8b7c1f30

-- the id of an interface or a delegate without one of its own
abbrev pub named_id : List ℕ → ℕ
named_id name = version_5 names_space name

-- the id of an interface or a delegate
abbrev pub own_id : Option Meaning → Option ℕ
own_id (Some (declared (Interface name version id owner requires_ members))) = Some id
own_id (Some (declared (Delegate name version id invoke))) = Some id
own_id (Some (found (FoundRow.Interface name arguments id members))) = Some id
own_id (Some (found (FoundRow.Delegate name arguments id params))) = Some id
own_id _ = None

-- the id of an interface, a delegate or an instance
abbrev pub id_of : List Declaration → UseTree → Option ℕ
id_of types (plain base) = None
id_of types (value name) = own_id (named types name 0)
id_of types (reference name) = own_id (named types name 0)
id_of types (instance name arguments) = option_map (version_5 instances_space) (signature_text types (instance name arguments))
