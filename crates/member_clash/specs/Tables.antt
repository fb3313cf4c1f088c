-- What a table of texts and names says.
use Rattle.std.specs.Prelude.{◌≡◌, ℕ, Bool, List, [], ◌∷◌, ◌++◌, Option, Some, None, map}
use Rattle.chains.specs.Groups.{graph_of}
use Rattle.wr_base.specs.Uses.{text_of}
use Rattle.wr_base.specs.declared.declaration.Declaration.{Declaration}
use Rattle.wr_base.specs.declared.declaration.Declaration.TheVariants.{Enum, Struct, Delegate, Interface, Class}
use Rattle.wr_rules.specs.Kinds.{meaning_of}
use Rattle.wr_rules.specs.Members.{names_within}
use Rattle.wr_base.specs.Lower.{lower}
use Rattle.wr_rules.specs.ListRules.{names_at, clash_of}
use Rattle.numbered.specs.Numbers.{number_in, NumbersBy, PutBy}
use Rattle.numbered.specs.Tables.{Known}
use Rattle.member_clash.specs.declared.table.Table.{Table}
use Rattle.std.specs.Option.{option_copied}
use denote.Ref.{Bor}

-- each text that is numbered owns the numbers of the names there
abbrev pub KnownIn : List Declaration → Table → Type 0
KnownIn types table = Known (names_at types) lower (number_in table.texts) table.texts.count (number_in table.names) table.names.count (graph_of table.owned.items)

-- the names within what a name means, where there is one
abbrev pub names_of_name : List Declaration → Option (List ℕ) → List (List ℕ)
names_of_name types None = []
names_of_name types (Some name) = names_within (meaning_of types name)

-- the same of a name that is borrowed
abbrev pub names_by : List Declaration → Option (Bor (List ℕ)) → List (List ℕ)
names_by types head = names_of_name types (option_copied head)

-- the name that a text begins with, where it is one
abbrev pub IsHead : List Declaration → List ℕ → Option (Bor (List ℕ)) → Type 0
IsHead types text head = names_at types text ≡ names_by types head

-- texts' numbers were put behind a list
abbrev pub Entered : List Declaration → Table → Table → List (List ℕ) → List ℕ → List ℕ → Type 0
Entered types a b texts old new = PutBy (λ t. t) (KnownIn types b) (number_in a.texts) (number_in b.texts) texts old new

-- the texts of the interfaces of a declaration
abbrev pub texts_listed : Declaration → List (List ℕ)
texts_listed (Interface name version id owner requires_ members) = name ∷ map text_of requires_
texts_listed (Class name version fixed default has direct factories statics) = map text_of has ++ statics
texts_listed (Enum name version flags cases) = []
texts_listed (Struct name version fields) = []
texts_listed (Delegate name version id invoke) = []

-- each declaration's texts have their numbers, in order
abbrev pub Knows : (List ℕ → Option ℕ) → List Declaration → List (List ℕ) → Type 0
Knows T [] [] = Unit {0}
Knows T [] (s ∷ ss) = ⊥
Knows T (d ∷ ds) [] = ⊥
Knows T (d ∷ ds) (s ∷ ss) = NumbersBy (λ t. t) T (texts_listed d) s × Knows T ds ss

-- two listed interfaces share a name
abbrev pub clash_at : List Declaration → Declaration → Bool
clash_at types d = clash_of types (texts_listed d)
