-- The limits of a set, counted in the order of places and then of names.
use Rattle.std.specs.Prelude.{◌+◌, ℕ, zero, suc, Bool, ◌&&◌, ◌||◌, nat_lt, nat_le, ◌==◌, List, [], ◌∷◌, Option, Some, None, length, map, sum, if◌then◌else◌}
use Rattle.std.specs.List.{list_any}
use Rattle.ranked.specs.Entries.{Entry}
use Rattle.ranked.specs.First.{Among, Below, At, Or}
use Rattle.ranked.specs.declared.place.Place.{Place}
use Rattle.wr_base.specs.Paths.{parts_of}
use Rattle.wr_base.specs.Places.{part_count}
use Rattle.wr_base.specs.declared.code.Code.TheVariants.{ManyTypes, ManyMembers, ManyParams, LongFullName, ManyNames, ManyUses}
use Rattle.wr_base.specs.Trees.{within}
use Rattle.wr_rules.specs.Kinds.{use_name}
use Rattle.wr_rules.specs.Sites.{Site, site_name, spot_of, If}
use Rattle.wr_rules.specs.MemberRules.{signatures_at}
use Rattle.wr_rules.specs.Uses.{uses_at}

-- one place is before another
abbrev pub place_less : Place → Place → Bool
place_less p q = nat_lt p.file q.file || (p.file == q.file && nat_lt p.offset q.offset)

-- the two are one place
abbrev pub place_same : Place → Place → Bool
place_same p q = p.file == q.file && p.offset == q.offset

-- the sites that stand before this one: by place, and at one place those in front of it, of which there are so many
abbrev pub before : ℕ → Place → List Site → List Site
before n at [] = []
before zero at (s ∷ ss) = if place_less s.places.at at then s ∷ before zero at ss else before zero at ss
before (suc n) at (s ∷ ss) = if place_less s.places.at at || place_same s.places.at at then s ∷ before n at ss else before n at ss

-- what is counted, over all of these
abbrev pub sum_by : (Site → ℕ) → List Site → ℕ
sum_by count sites = sum (map count sites)

-- what is counted passes the limit here
abbrev pub passes : (Site → ℕ) → ℕ → List Site → Site → Bool
passes count limit earlier s = nat_le (sum_by count earlier) limit && nat_lt limit (sum_by count earlier + count s)

-- cases, fields, members and parameters
abbrev pub names_in : Site → ℕ
names_in s = part_count s.decl + sum (map (λ g. length g.part.params) (signatures_at s))

-- bases and names in all uses
abbrev pub words_in : Site → ℕ
words_in s = sum (map (λ u. length (within u.use_)) (uses_at s))

-- the bytes of a name, where there is one
abbrev pub bytes_by : Option (List ℕ) → ℕ
bytes_by None = 0
bytes_by (Some name) = length name

-- bytes of the full names among them
abbrev pub bytes_in : Site → ℕ
bytes_in s = sum (map (λ u. sum (map (λ v. bytes_by (use_name v)) (within u.use_))) (uses_at s))

-- one of the two counts of uses passes its limit here
abbrev pub passes_uses : List Site → Site → Bool
passes_uses earlier s =
    nat_le (sum_by words_in earlier) 4000000 && nat_le (sum_by bytes_in earlier) 67108864
    && (nat_lt 4000000 (sum_by words_in earlier + words_in s) || nat_lt 67108864 (sum_by bytes_in earlier + bytes_in s))

-- above 511 bytes, or one part above 255
abbrev pub is_long_name : List ℕ → Bool
is_long_name name = nat_lt 511 (length name) || list_any (λ part. nat_lt 255 (length part)) (parts_of name)

-- of one declaration
abbrev pub IsManyMembers : Site → Entry → Type 0
IsManyMembers s = If (nat_lt 4000 (part_count s.decl)) ManyMembers (spot_of s)

-- more than 64 parameters
abbrev pub IsManyParams : Site → Entry → Type 0
IsManyParams s = Among (signatures_at s) (λ g. If (nat_lt 64 (length g.part.params)) ManyParams g.spot)

-- the name is too long
abbrev pub IsLongFullName : Site → Entry → Type 0
IsLongFullName s = If (is_long_name (site_name s)) LongFullName (spot_of s)

-- of the set: the first declaration past a limit
abbrev pub IsManyTypes : List Site → Site → Entry → Type 0
IsManyTypes earlier s = If (length earlier == 20000) ManyTypes (spot_of s)

-- names pass 500,000
abbrev pub IsManyNames : List Site → Site → Entry → Type 0
IsManyNames earlier s = If (passes names_in 500000 earlier s) ManyNames (spot_of s)

-- uses pass 4,000,000, or the bytes of their names 64 MiB
abbrev pub IsManyUses : List Site → Site → Entry → Type 0
IsManyUses earlier s = If (passes_uses earlier s) ManyUses (spot_of s)

-- the limits at one declaration, in the order of the table
abbrev pub LimitAt : List Site → ℕ → Site → Entry → Type 0
LimitAt sites k s =
    Or (IsManyTypes (before k s.places.at sites) s) (Or (IsManyMembers s) (Or (IsManyParams s) (Or (IsLongFullName s)
    (Or (IsManyNames (before k s.places.at sites) s) (IsManyUses (before k s.places.at sites) s)))))

-- a set limit is passed
abbrev pub Limits : List Site → Entry → Type 0
Limits sites = Below (length sites) (λ k. At sites (LimitAt sites k) k)
