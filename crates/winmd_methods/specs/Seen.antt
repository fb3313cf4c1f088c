-- The rows of parameters as the code has them.
use Rattle.std.specs.Prelude.{ℕ, suc, nat_le, List, [], ◌∷◌, length, Result, Ok}
use Rattle.md_schema.specs.declared.faults.ImageKind.TheVariants.{BadShape, PastLimit}
use Rattle.md_schema.specs.declared.table.Table.TheVariants as tables
use Rattle.winmd_rows.specs.Faults.{Fault, ◌>>=◌, checked, each, the_one}
use Rattle.winmd_lines.specs.Cells.{Numbered, Tables, at, bytes_in, list_of, name_in}
use Rattle.winmd_sets.specs.Methods.{invokes, named_method, of_sequence, sequenced, with_names}
use Rattle.winmd_sets.specs.Blobs.{method_of}
use Rattle.wr_base.specs.Trees.{ParamTree, SignatureTree}
use Rattle.winmd_cells.specs.declared.image.Image.{Image}
use Rattle.winmd_cells.specs.Seen.{seen}
use Rattle.winmd_methods.specs.declared.delegates.NamedMethod.{NamedMethod}
use Rattle.winmd_methods.specs.declared.params.Sequenced.{Sequenced}

abbrev pub sequenced_seen : Image → Sequenced → ℕ × Numbered
sequenced_seen image row = (row.sequence, seen image tables.Param row.row)

-- the name of the parameter of a sequence number
abbrev pub param_name : Tables → ℕ → List (ℕ × Numbered) → ℕ → Result (List ℕ) Fault
param_name t offset rows n = the_one BadShape offset (of_sequence n rows) >>= λ row. name_in t tables.Param row 2

abbrev pub with_name : List ℕ → ParamTree → ParamTree
with_name name p = record { name = name; out = p.out; kind = p.kind }

-- a parameter with its name
abbrev pub named_param : Tables → ℕ → List (ℕ × Numbered) → ℕ → ParamTree → Result ParamTree Fault
named_param t offset rows n p = param_name t offset rows n >>= λ name. Ok (with_name name p)

-- parameters with their names, from this sequence number on
abbrev pub params_by : Tables → ℕ → List (ℕ × Numbered) → ℕ → List ParamTree → Result (List ParamTree) Fault
params_by t offset rows n [] = Ok []
params_by t offset rows n (p ∷ ps) = do
  name ← param_name t offset rows n
  others ← params_by t offset rows (suc n) ps
  Ok (with_name name p ∷ others)

-- a method's name and its row
abbrev pub method_seen : Image → NamedMethod → List ℕ × Numbered
method_seen image m = (m.name.now, seen image tables.MethodDef m.row)

-- the parameters of a method with their names
abbrev pub named_params : Tables → ℕ → List ParamTree → Result (List ParamTree) Fault
named_params t n params = do
  list ← list_of t tables.MethodDef 5 tables.Param n
  rows ← each (sequenced t) list
  params_by t (at t tables.MethodDef n 5) rows 1 params

-- the one method named Invoke among rows
abbrev pub one_invoke : Tables → ℕ → List Numbered → Result Numbered Fault
one_invoke t offset rows = each (named_method t) rows >>= λ names. the_one BadShape offset (invokes names)

-- a signature with the names of a method's parameters, in two steps
abbrev pub named_signature : Tables → ℕ → SignatureTree → Result SignatureTree Fault
named_signature t n sig = named_params t n sig.params >>= λ params. Ok (record { params = params; result = sig.result })

-- the same of at most 64
abbrev pub few_params : Tables → ℕ → ℕ → SignatureTree → Result SignatureTree Fault
few_params t offset n sig = checked (nat_le (length sig.params) 64) PastLimit offset >>= λ few. with_names t n sig

-- what the blob of a method spells
abbrev pub plain_signature : Tables → Numbered → Result SignatureTree Fault
plain_signature t row = bytes_in row.1 4 >>= λ blob. method_of t (at t tables.MethodDef row.0 4) blob

abbrev pub whole_signature : Tables → Numbered → Result SignatureTree Fault
whole_signature t row = plain_signature t row >>= λ sig. few_params t (at t tables.MethodDef row.0 4) row.0 sig
