-- Signatures of methods with the names of their parameters, and delegates (ECMA-335 II.22.26, II.22.33).
use Rattle.std.specs.Prelude.{ℕ, suc, ◌==◌, nat_le, bytes_eq, codes, List, [], ◌∷◌, length, Result, Ok, if◌then◌else◌}
use Rattle.md_schema.specs.declared.table.Table.TheVariants as tables
use Rattle.md_schema.specs.declared.faults.ImageKind.TheVariants.{BadShape, PastLimit}
use Rattle.winmd_rows.specs.Faults.{Fault, ◌>>=◌, each, the_one, checked}
use Rattle.winmd_sets.specs.Blobs.{method_of}
use Rattle.winmd_lines.specs.Cells.{Numbered, Tables, at, number_in, bytes_in, list_of, name_in}
use Rattle.wr_base.specs.Trees.{ParamTree, SignatureTree, DeclTree, delegate}
use Rattle.winmd_sets.specs.Attributes.{Attribute, id_of, version_of}

-- ---- methods

-- the name of the parameter of a sequence number, from 1 on
abbrev pub sequenced : Tables → Numbered → Result (ℕ × Numbered) Fault
sequenced t row = number_in row.1 1 >>= λ n. Ok (n, row)

abbrev pub of_sequence : ℕ → List (ℕ × Numbered) → List Numbered
of_sequence n [] = []
of_sequence n ((m, row) ∷ rows) = if n == m then row ∷ of_sequence n rows else of_sequence n rows

abbrev pub params_from : Tables → ℕ → List (ℕ × Numbered) → ℕ → List ParamTree → Result (List ParamTree) Fault
params_from t offset rows n [] = Ok []
params_from t offset rows n (p ∷ ps) = do
  row ← the_one BadShape offset (of_sequence n rows)
  name ← name_in t tables.Param row 2
  others ← params_from t offset rows (suc n) ps
  Ok ((record { name = name; out = p.out; kind = p.kind }) ∷ others)

-- a signature with the names of the parameters of a method
abbrev pub with_names : Tables → ℕ → SignatureTree → Result SignatureTree Fault
with_names t n sig = do
  list ← list_of t tables.MethodDef 5 tables.Param n
  rows ← each (sequenced t) list
  params ← params_from t (at t tables.MethodDef n 5) rows 1 sig.params
  Ok (record { params = params; result = sig.result })

-- the signature of a method, with the names of its parameters; there are 64 at most
abbrev pub signature_of : Tables → Numbered → Result SignatureTree Fault
signature_of t row = do
  blob ← bytes_in row.1 4
  sig ← method_of t (at t tables.MethodDef row.0 4) blob
  few ← checked (nat_le (length sig.params) 64) PastLimit (at t tables.MethodDef row.0 4)
  with_names t row.0 sig

abbrev pub named_method : Tables → Numbered → Result (List ℕ × Numbered) Fault
named_method t row = bytes_in row.1 3 >>= λ name. Ok (name, row)

abbrev pub invokes : List (List ℕ × Numbered) → List Numbered
invokes [] = []
invokes ((name, row) ∷ rows) = if bytes_eq name (codes "Invoke") then row ∷ invokes rows else invokes rows

-- the one method named Invoke
abbrev pub invoke_of : Tables → ℕ → Result SignatureTree Fault
invoke_of t n = do
  methods ← list_of t tables.TypeDef 5 tables.MethodDef n
  names ← each (named_method t) methods
  invoke ← the_one BadShape (at t tables.TypeDef n 5) (invokes names)
  signature_of t invoke

abbrev pub delegate_of : Tables → ℕ → List ℕ → List Attribute → Result DeclTree Fault
delegate_of t n full attributes = do
  version ← version_of t n attributes
  id ← id_of t n attributes
  sig ← invoke_of t n
  Ok (delegate full version id sig)
