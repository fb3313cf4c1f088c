-- Coded indices: the number of a row and a tag, and that naming and finding undo each other.
use Rattle.std.proofs.Common.{◌≡◌, ℕ, zero, suc, ◌+◌, ◌-◌, ◌*◌, ◌/◌, ◌%◌, ◌^◌, ◌<◌, ◌≤◌, Bool, true, false, List, [], ◌∷◌, length, get_or, Option, Some, None, refl, sym, ap, subst, ◌∙◌, arith}
use Rattle.std.specs.Prelude.{◌==◌, ◌&&◌, position, option_map, IfSome}
use Rattle.std.proofs.lemmas.Bool.{eqb-true, and_parts}
use Rattle.std.proofs.lemmas.Nat.{pow-add, mod-mul-add, shr_high, shr_split}
use Rattle.std.proofs.lemmas.List.Quantifiers.{position-Some}
use Rattle.std.proofs.Math.Nat.{mul-le-mul_right}
use Rattle.md_schema.specs.declared.table.Table.{Table}
use Rattle.md_schema.specs.declared.table.Table.TheVariants as tables
use Rattle.md_schema.specs.declared.column.CodedIndex.{CodedIndex}
use Rattle.md_schema.specs.declared.column.CodedIndex.TheVariants as coded
use Rattle.md_schema.specs.Codes.{target_of, code_of, is_table}
use Rattle.md_schema.specs.Schema.{number_of, bits_of, choices_of}

-- the number of a row and a tag has 32 bits
pub code_fits : (row tag bits : ℕ) → bits < 16 → row < 2 ^ (32 - bits) → tag < 2 ^ bits → row * 2 ^ bits + tag < 2 ^ 32
code_fits row tag bits short h t =
    let k : 32 ≡ (32 - bits) + bits = omega arith in
    let p : 2 ^ 32 ≡ 2 ^ (32 - bits) * 2 ^ bits = ap (λ n. 2 ^ n) k ∙ pow-add 2 (32 - bits) bits in
    let m : suc row * 2 ^ bits ≤ 2 ^ (32 - bits) * 2 ^ bits = mul-le-mul_right (2 ^ bits) h in
    omega (arith, p, m, t)

-- a table from its number
abbrev numbered : List Table
numbered = tables.Module ∷ tables.TypeRef ∷ tables.TypeDef ∷ tables.Module ∷ tables.Field ∷ tables.Module ∷ tables.MethodDef ∷ tables.Module ∷ tables.Param ∷ tables.InterfaceImpl ∷ tables.MemberRef ∷ tables.Constant ∷ tables.CustomAttribute ∷ tables.FieldMarshal ∷ tables.DeclSecurity ∷ tables.ClassLayout ∷ tables.FieldLayout ∷ tables.StandAloneSig ∷ tables.EventMap ∷ tables.Module ∷ tables.Event ∷ tables.PropertyMap ∷ tables.Module ∷ tables.Property ∷ tables.MethodSemantics ∷ tables.MethodImpl ∷ tables.ModuleRef ∷ tables.TypeSpec ∷ tables.ImplMap ∷ tables.FieldRva ∷ tables.Module ∷ tables.Module ∷ tables.Assembly ∷ tables.AssemblyProcessor ∷ tables.AssemblyOs ∷ tables.AssemblyRef ∷ tables.AssemblyRefProcessor ∷ tables.AssemblyRefOs ∷ tables.File ∷ tables.ExportedType ∷ tables.ManifestResource ∷ tables.NestedClass ∷ tables.GenericParam ∷ tables.MethodSpec ∷ tables.GenericParamConstraint ∷ []

from_number : (t : Table) → get_or numbered (number_of t) tables.Module ≡ t
from_number tables.Module = refl
from_number tables.TypeRef = refl
from_number tables.TypeDef = refl
from_number tables.Field = refl
from_number tables.MethodDef = refl
from_number tables.Param = refl
from_number tables.InterfaceImpl = refl
from_number tables.MemberRef = refl
from_number tables.Constant = refl
from_number tables.CustomAttribute = refl
from_number tables.FieldMarshal = refl
from_number tables.DeclSecurity = refl
from_number tables.ClassLayout = refl
from_number tables.FieldLayout = refl
from_number tables.StandAloneSig = refl
from_number tables.EventMap = refl
from_number tables.Event = refl
from_number tables.PropertyMap = refl
from_number tables.Property = refl
from_number tables.MethodSemantics = refl
from_number tables.MethodImpl = refl
from_number tables.ModuleRef = refl
from_number tables.TypeSpec = refl
from_number tables.ImplMap = refl
from_number tables.FieldRva = refl
from_number tables.Assembly = refl
from_number tables.AssemblyProcessor = refl
from_number tables.AssemblyOs = refl
from_number tables.AssemblyRef = refl
from_number tables.AssemblyRefProcessor = refl
from_number tables.AssemblyRefOs = refl
from_number tables.File = refl
from_number tables.ExportedType = refl
from_number tables.ManifestResource = refl
from_number tables.NestedClass = refl
from_number tables.GenericParam = refl
from_number tables.MethodSpec = refl
from_number tables.GenericParamConstraint = refl

same_number : (a b : Table) → number_of a ≡ number_of b → a ≡ b
same_number a b e = sym (from_number a) ∙ ap (λ n. get_or numbered n tables.Module) e ∙ from_number b

is_that : (table : Table) (choice : Option Table) → is_table table choice ≡ true → choice ≡ Some table
is_that table None h = absurd cc
is_that table (Some other) h = ap (λ (t : Table). Some t) (same_number other table (eqb-true _ _ h))

encoded_at : (bits : ℕ) (choices : List (Option Table)) (table : Table) (row : ℕ) (tag : Option ℕ) → length choices ≤ 2 ^ bits → position (is_table table) choices ≡ tag
    → IfSome (option_map (λ n. row * 2 ^ bits + n) tag) (λ raw. target_of bits choices raw ≡ Some (table, row))
encoded_at bits choices table row None fits e = tt
encoded_at bits choices table row (Some tag) fits e =
    let found = position-Some (is_table table) choices tag None e in
    let low : tag < 2 ^ bits = omega (arith, found.0, fits) in
    let here : get_or choices tag None ≡ Some table = is_that table (get_or choices tag None) found.1 in
    rw (mod-mul-add row (2 ^ bits) tag low, shr_high row bits tag low, here) refl

-- what a number is made of, it names
pub encoded : (bits : ℕ) (choices : List (Option Table)) (table : Table) (row : ℕ) → length choices ≤ 2 ^ bits
    → IfSome (code_of bits choices table row) (λ raw. target_of bits choices raw ≡ Some (table, row))
encoded bits choices table row fits = encoded_at bits choices table row (position (is_table table) choices) fits refl

-- ---- no table stands twice among the choices

abbrev same_place : Option ℕ → ℕ → Bool
same_place None i = false
same_place (Some j) i = j == i

abbrev is_first : List (Option Table) → Option Table → ℕ → Bool
is_first choices None i = true
is_first choices (Some t) i = same_place (position (is_table t) choices) i

-- from the i-th tag on, each table is at its first place
abbrev all_first : List (Option Table) → List (Option Table) → ℕ → Bool
all_first choices [] i = true
all_first choices (c ∷ cs) i = is_first choices c i && all_first choices cs (suc i)

place_is : (o : Option ℕ) (i : ℕ) → same_place o i ≡ true → o ≡ Some i
place_is None i h = absurd cc
place_is (Some j) i h = ap (λ (n : ℕ). Some n) (eqb-true j i h)

first_is : (choices : List (Option Table)) (c : Option Table) (t : Table) (i : ℕ) → is_first choices c i ≡ true → c ≡ Some t → position (is_table t) choices ≡ Some i
first_is choices None t i h e = absurd cc
first_is choices (Some s) t i h e =
    let same : s ≡ t = cc in
    subst (λ (x : Table). position (is_table x) choices ≡ Some i) same (place_is (position (is_table s) choices) i h)

first_here : (choices cs : List (Option Table)) (i k : ℕ) (t : Table) → all_first choices cs i ≡ true → get_or cs k None ≡ Some t → position (is_table t) choices ≡ Some (i + k)
first_here choices [] i k t h e = absurd cc
first_here choices (c ∷ cs) i zero t h e =
    let parts = and_parts (is_first choices c i) (all_first choices cs (suc i)) h in
    first_is choices c t i parts.0 e ∙ ap (λ (n : ℕ). Some n) (omega arith)
first_here choices (c ∷ cs) i (suc k) t h e =
    let parts = and_parts (is_first choices c i) (all_first choices cs (suc i)) h in
    first_here choices cs (suc i) k t parts.1 e ∙ ap (λ (n : ℕ). Some n) (omega arith)

decoded_at : (bits : ℕ) (choices : List (Option Table)) (raw : ℕ) (choice : Option Table) → all_first choices choices 0 ≡ true → get_or choices (raw % 2 ^ bits) None ≡ choice
    → IfSome {T = Table × ℕ} (option_map {U = Table × ℕ} (λ table. (table, raw / 2 ^ bits)) choice) (λ named. code_of bits choices named.0 named.1 ≡ Some raw)
decoded_at bits choices raw None h e = tt
decoded_at bits choices raw (Some t) h e =
    let at : position (is_table t) choices ≡ Some (0 + raw % 2 ^ bits) = first_here choices choices 0 (raw % 2 ^ bits) t h e in
    rw at (ap (λ (n : ℕ). Some n) (omega (arith, shr_split raw bits)))

decoded_by : (bits : ℕ) (choices : List (Option Table)) (raw : ℕ) → all_first choices choices 0 ≡ true
    → IfSome (target_of bits choices raw) (λ named. code_of bits choices named.0 named.1 ≡ Some raw)
decoded_by bits choices raw h = decoded_at bits choices raw (get_or choices (raw % 2 ^ bits) None) h refl

all_are_first : (index : CodedIndex) → all_first (choices_of index) (choices_of index) 0 ≡ true
all_are_first coded.TypeDefOrRef = refl
all_are_first coded.HasConstant = refl
all_are_first coded.HasCustomAttribute = refl
all_are_first coded.HasFieldMarshal = refl
all_are_first coded.HasDeclSecurity = refl
all_are_first coded.MemberRefParent = refl
all_are_first coded.HasSemantics = refl
all_are_first coded.MethodDefOrRef = refl
all_are_first coded.MemberForwarded = refl
all_are_first coded.Implementation = refl
all_are_first coded.CustomAttributeType = refl
all_are_first coded.ResolutionScope = refl
all_are_first coded.TypeOrMethodDef = refl

-- what a number names is made into it again
pub decoded : (index : CodedIndex) (raw : ℕ) → IfSome (target_of (bits_of index) (choices_of index) raw) (λ named. code_of (bits_of index) (choices_of index) named.0 named.1 ≡ Some raw)
decoded index raw = decoded_by (bits_of index) (choices_of index) raw (all_are_first index)
