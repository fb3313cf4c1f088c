-- ABI names and names of members, counted in lower case.
use Rattle.std.specs.Prelude.{ℕ, ◌+◌, Bool, false, not, ◌&&◌, ◌||◌, nat_lt, List, ◌++◌, Option, Some, None, codes, if◌then◌else◌}
use Rattle.std.specs.List.{list_any}
use Rattle.std.specs.Str.{bytes_eq}
use Rattle.wr_base.specs.declared.declaration.Member.{Member}
use Rattle.wr_base.specs.declared.declaration.Member.TheVariants.{Method, Property, Event}
use Rattle.wr_rules.specs.Members.{member_name, abi_names}
use Rattle.wr_base.specs.Lower.{lower}
use Rattle.member_counts.specs.Tallies.{count_at}
use Rattle.accessor_clash.specs.declared.tallies.AbiMaps.{AbiMaps}

-- the first ABI name of a member
abbrev pub first_abi : Member → List ℕ
first_abi (Method name abi sig) = abi
first_abi (Property name ty put) = codes "get_" ++ name
first_abi (Event name ty) = codes "add_" ++ name

-- the second one, where it has two
abbrev pub second_abi : Member → Option (List ℕ)
second_abi (Method name abi sig) = None
second_abi (Property name ty put) = if put then Some (codes "put_" ++ name) else None
second_abi (Event name ty) = Some (codes "remove_" ++ name)

-- there is a text, and it passes
abbrev pub some_passes : (List ℕ → Bool) → Option (List ℕ) → Bool
some_passes test None = false
some_passes test (Some text) = test text

-- there is a name, and in lower case it is this text
abbrev pub is_lower : Option (List ℕ) → List ℕ → Bool
is_lower None text = false
is_lower (Some name) text = bytes_eq (lower name) text

-- one of the names is this text in lower case
abbrev pub has_lower : List (List ℕ) → List ℕ → Bool
has_lower names text = list_any (λ n. bytes_eq (lower n) text) names

-- a method whose ABI name is its name but for case; no accessor is named as its property or event
abbrev pub is_own : Member → Bool
is_own (Method name abi sig) = bytes_eq (lower abi) (lower name)
is_own (Property name ty put) = false
is_own (Event name ty) = false

-- how many members have this ABI name
abbrev pub abi_count : AbiMaps → List ℕ → ℕ
abi_count maps text = count_at maps.firsts text + count_at maps.seconds text

-- two members have the ABI name, or members of another name than this have it as name
abbrev pub is_shared : (abis names : List ℕ → ℕ) → List ℕ → List ℕ → Bool
is_shared abis names own text = nat_lt 1 (abis text) || (not (bytes_eq text own) && nat_lt 0 (names text))

-- by counts: an ABI name of the member is shared, or its name is the ABI name of a member of another name
abbrev pub clash_by : (abis names owns : List ℕ → ℕ) → Member → Bool
clash_by abis names owns m =
    list_any (λ n. is_shared abis names (lower (member_name m)) (lower n)) (abi_names m) || nat_lt (owns (lower (member_name m))) (abis (lower (member_name m)))
