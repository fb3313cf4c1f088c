-- The attributes that are written, each by the constructor that makes it.
use Rattle.std.specs.Prelude.{ℕ, List, [], ◌∷◌, ◌++◌, map, codes, None, false}
use Rattle.wr_base.specs.declared.type_use.Base.TheVariants as bases
use Rattle.wr_base.specs.Trees.{UseTree, plain, reference, ParamTree, SignatureTree}

-- A constructor of an attribute's type. `Activatable` is of a class that is made without parameters, `Factory` of one with a factory; both make an ActivatableAttribute.
pub data Maker : Type 0 where
  Flags : Maker
  Activatable : Maker
  Factory : Maker
  Default : Maker
  ExclusiveTo : Maker
  Guid : Maker
  Overload : Maker
  Static : Maker
  Version : Maker

-- all of them, in the order of their types' full names, and then of their signatures
abbrev pub all_makers : List Maker
all_makers = Flags ∷ Activatable ∷ Factory ∷ Default ∷ ExclusiveTo ∷ Guid ∷ Overload ∷ Static ∷ Version ∷ []

abbrev pub metadata : List ℕ → List ℕ
metadata word = codes "Windows.Foundation.Metadata." ++ word ++ codes "Attribute"

-- the full name of the attribute's type
abbrev pub maker_type : Maker → List ℕ
maker_type Flags = codes "System.FlagsAttribute"
maker_type Activatable = metadata (codes "Activatable")
maker_type Factory = metadata (codes "Activatable")
maker_type Default = metadata (codes "Default")
maker_type ExclusiveTo = metadata (codes "ExclusiveTo")
maker_type Guid = metadata (codes "Guid")
maker_type Overload = metadata (codes "Overload")
maker_type Static = metadata (codes "Static")
maker_type Version = metadata (codes "Version")

abbrev pub u4 : UseTree
u4 = plain bases.U32

abbrev pub system_type : UseTree
system_type = reference (codes "System.Type")

-- the types of its parameters
abbrev pub maker_params : Maker → List UseTree
maker_params Flags = []
maker_params Activatable = u4 ∷ []
maker_params Factory = system_type ∷ u4 ∷ []
maker_params Default = []
maker_params ExclusiveTo = system_type ∷ []
maker_params Guid = u4 ∷ plain bases.U16 ∷ plain bases.U16 ∷ plain bases.U8 ∷ plain bases.U8 ∷ plain bases.U8 ∷ plain bases.U8 ∷ plain bases.U8 ∷ plain bases.U8 ∷ plain bases.U8 ∷ plain bases.U8 ∷ []
maker_params Overload = plain bases.Text ∷ []
maker_params Static = system_type ∷ u4 ∷ []
maker_params Version = u4 ∷ []

abbrev pub unnamed : UseTree → ParamTree
unnamed type_ = record { name = []; out = false; kind = type_ }

abbrev pub maker_signature : Maker → SignatureTree
maker_signature maker = record { params = map unnamed (maker_params maker); result = None }

abbrev pub maker_number : Maker → ℕ
maker_number Flags = 0
maker_number Activatable = 1
maker_number Factory = 2
maker_number Default = 3
maker_number ExclusiveTo = 4
maker_number Guid = 5
maker_number Overload = 6
maker_number Static = 7
maker_number Version = 8
