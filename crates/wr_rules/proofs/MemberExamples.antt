-- Members that break a rule, and members that don't.
use Rattle.std.proofs.Common.{◌≡◌, ℕ, true, false, List, [], ◌∷◌, None, refl}
use Rattle.std.specs.Prelude.{codes, pos, negsuc, ◌^◌, ◌-◌}
use Rattle.wr_base.specs.declared.type_use.Base.TheVariants.{I32}
use Rattle.wr_base.specs.declared.type_use.TypeUse.TheVariants.{Plain}
use Rattle.wr_base.specs.declared.declaration.Member.{Member}
use Rattle.wr_base.specs.declared.declaration.Member.TheVariants.{Method, Property, Event}
use Rattle.wr_base.specs.declared.declaration.Declaration.TheVariants.{Struct, Enum}
use Rattle.wr_rules.specs.Members.{abi_names, accessors_of}
use Rattle.wr_rules.specs.MemberRules.{fits, is_bare_struct, mixes, differs_in_case, shares_abi, takes_abi}

-- EnumRange: both ends
ranges :
    (fits false (pos (2 ^ 31 - 1)) ≡ true)
    × (fits false (pos (2 ^ 31)) ≡ false)
    × (fits false (negsuc (2 ^ 31 - 1)) ≡ true)
    × (fits false (negsuc (2 ^ 31)) ≡ false)
    × (fits true (pos (2 ^ 32 - 1)) ≡ true)
    × (fits true (pos (2 ^ 32)) ≡ false)
    × (fits true (negsuc 0) ≡ false)
ranges = (refl, refl, refl, refl, refl, refl, refl)

-- StructEmpty: of structs alone
empty : (is_bare_struct (Struct (codes "A.B") 1 []) ≡ true) × (is_bare_struct (Enum (codes "A.B") 1 false []) ≡ false)
empty = (refl, refl)

abbrev method_of : List ℕ → List ℕ → Member
method_of name abi = Method name abi (record { params = []; result = None })

abbrev read_only : List ℕ → Member
read_only name = Property name (Plain I32) false

abbrev written_too : List ℕ → Member
written_too name = Property name (Plain I32) true

-- OverloadKind: of one exact name, not all of them methods
kinds :
    (mixes (method_of (codes "Go") (codes "Go")) (method_of (codes "Go") (codes "Go2")) ≡ false)
    × (mixes (method_of (codes "Go") (codes "Go")) (read_only (codes "Go")) ≡ true)
    × (mixes (read_only (codes "Go")) (read_only (codes "Go")) ≡ true)
    × (mixes (method_of (codes "Go") (codes "Go")) (read_only (codes "go")) ≡ false)
kinds = (refl, refl, refl, refl)

-- MemberCase: in ASCII case alone
cases :
    (differs_in_case (method_of (codes "Go") (codes "Go")) (read_only (codes "go")) ≡ true)
    × (differs_in_case (method_of (codes "Go") (codes "Go")) (read_only (codes "Go")) ≡ false)
    × (differs_in_case (method_of (codes "Go") (codes "Go")) (read_only (codes "Got")) ≡ false)
cases = (refl, refl, refl)

-- AccessorClash: by ABI names but for case, accessors' names included; a read-only property has no put
clashes :
    (shares_abi (method_of (codes "get_X") (codes "get_X")) (read_only (codes "X")) ≡ true)
    × (shares_abi (method_of (codes "Put") (codes "PUT_x")) (written_too (codes "X")) ≡ true)
    × (shares_abi (method_of (codes "Put") (codes "put_X")) (read_only (codes "X")) ≡ false)
    × (shares_abi (method_of (codes "Go") (codes "Go")) (method_of (codes "Go") (codes "Go2")) ≡ false)
    × (shares_abi (method_of (codes "remove_X") (codes "remove_X")) (Event (codes "X") (Plain I32)) ≡ true)
clashes = (refl, refl, refl, refl, refl)

-- a name that is an ABI name of a member of another name, either way round
taken :
    (takes_abi (method_of (codes "Go2") (codes "Go2x")) (method_of (codes "Go") (codes "Go2")) ≡ true)
    × (takes_abi (method_of (codes "Go") (codes "Go2")) (method_of (codes "Go2") (codes "Go2x")) ≡ true)
    × (takes_abi (method_of (codes "Go") (codes "Go")) (method_of (codes "Go") (codes "Go2")) ≡ false)
taken = (refl, refl, refl)

-- what a property and an event are called in the ABI
accessors :
    (abi_names (written_too (codes "X")) ≡ codes "get_X" ∷ codes "put_X" ∷ [])
    × (abi_names (Event (codes "X") (Plain I32)) ≡ codes "add_X" ∷ codes "remove_X" ∷ [])
    × (accessors_of (method_of (codes "Go") (codes "Go2")) ≡ [])
accessors = (refl, refl, refl)
