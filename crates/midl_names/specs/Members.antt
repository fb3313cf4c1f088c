-- Fields, members and cases, one for each name (MIDL 3.0 reference, Members).
use Rattle.std.specs.Prelude.{◌==◌, ◌+◌, ℕ, ℤ, pos, neg_ℤ, ◌+ℤ◌, Bool, true, false, List, [], ◌∷◌, ◌++◌, Option, Some, None, map, count_by, if◌then◌else◌}
use Rattle.std.specs.Fmt.{decimal}
use Rattle.std.specs.Str.{bytes_eq}
use Rattle.wr_base.specs.declared.declaration.Case.{Case}
use Rattle.wr_base.specs.declared.declaration.Field.{Field}
use Rattle.wr_base.specs.declared.declaration.Member.{Member}
use Rattle.wr_base.specs.declared.declaration.Member.TheVariants.{Method, Property, Event}
use Rattle.midl_lex.specs.Numbers.{value_of}
use Rattle.midl_tree.specs.declared.nodes.Value.{Value}
use Rattle.midl_tree.specs.declared.nodes.CaseNode.{CaseNode}
use Rattle.midl_tree.specs.Trees.{FieldsTree, MemberTree, method, event, properties, property}
use Rattle.midl_names.specs.declared.sort.Sort.{Sort}
use Rattle.midl_names.specs.Resolved.{resolved, signature_of}

-- a number, negated behind a minus
abbrev pub signed : Value → ℤ
signed v = if v.negated then neg_ℤ (pos (value_of v.number.text)) else pos (value_of v.number.text)

-- the value that is written, or else the one that would be next
abbrev pub value_or : ℤ → Option Value → ℤ
value_or next None = next
value_or next (Some v) = signed v

-- the cases, of which the first would have the value `next`: a case without a value has the last one plus one
abbrev pub cases_from : ℤ → List CaseNode → List Case
cases_from next [] = []
cases_from next (c ∷ cs) = record { name = c.name.text; value = value_or next c.value } ∷ cases_from (value_or next c.value +ℤ pos 1) cs

-- whether a member is a method of exactly this name
abbrev pub is_method : List ℕ → Member → Bool
is_method name (Method own abi sig) = bytes_eq own name
is_method name (Property own ty put) = false
is_method name (Event own ty) = false

-- the ABI name of a method behind so many of its name: the k-th has the numeral k, from 2
abbrev pub abi_name : List ℕ → ℕ → List ℕ
abi_name name count = if count == 0 then name else name ++ decimal (count + 1)

-- the count of a method's name
abbrev pub told_count : (List ℕ → ℕ) → Member → ℕ
told_count count (Method name abi sig) = count name
told_count count (Property name ty put) = 0
told_count count (Event name ty) = 0

-- the counts with one more method, of which there were so many before
abbrev pub noted : ℕ → Member → (List ℕ → ℕ) → List ℕ → ℕ
noted count m told name = if is_method name m then count + 1 else told name

abbrev pub count_before : List Member → Member → ℕ
count_before before = told_count (λ name. count_by (is_method name) before)

-- a member that stands behind so many methods of its name
abbrev pub with_abi : ℕ → Member → Member
with_abi count (Method name abi sig) = Method name (abi_name name count) sig
with_abi count (Property name ty put) = Property name ty put
with_abi count (Event name ty) = Event name ty

-- members behind these, with their ABI names
abbrev pub named_from : List Member → List Member → List Member
named_from before [] = []
named_from before (m ∷ ms) = with_abi (count_before before m) m ∷ named_from (before ++ m ∷ []) ms

module _ (known : List ℕ → Option Sort) (space : List (List ℕ)) where
  -- a field for each name
  abbrev pub fields_of : FieldsTree → List Field
  fields_of f = map (λ n. record { name = n.text; ty = resolved known space f.kind }) f.names

  -- members without ABI names; properties without accessors can be set
  abbrev pub members_of : MemberTree → List Member
  members_of (method result name params) = Method name.text [] (signature_of known space result params) ∷ []
  members_of (event kind name) = Event name.text (resolved known space kind) ∷ []
  members_of (properties kind names) = map (λ n. Property n.text (resolved known space kind) true) names
  members_of (property kind name put) = Property name.text (resolved known space kind) put ∷ []
