-- A method by its name, its name in the ABI and its signature.
use Rattle.std.proofs.Common.{◌≡◌, ℕ, List, Result, Ok, Err, sym, ap, ◌∙◌}
use Rattle.md_schema.specs.declared.faults.ImageFault.{ImageFault}
use Rattle.md_schema.specs.declared.table.Table.TheVariants as tables
use Rattle.ranked.specs.declared.stop.Stop.{Stop}
use Rattle.ranked.specs.declared.stop.Stop.TheVariants.{Memory, Refused}
use Rattle.winmd_rows.specs.Faults.{Fault, Faulty, ◌>>=◌}
use Rattle.winmd_lines.specs.Cells.{Numbered, Tables, name_in}
use Rattle.winmd_sets.specs.Interfaces.{OfMethod, abi_of, numbered_name}
use Rattle.winmd_sets.specs.Methods.{signature_of}
use Rattle.wr_base.specs.Trees.{MemberTree, SignatureTree, method}
use Rattle.winmd_cells.specs.Given.{Fails}
use Rattle.winmd_members.specs.Earlier.{member_by}

module _ (t : Tables) (row : Numbered) (count : List ℕ → ℕ) where
  abbrev by_sig : List ℕ → List ℕ → Result SignatureTree Fault → Result MemberTree Fault
  by_sig name abi o = o >>= λ sig. Ok (method name abi sig)

  abbrev by_abi : List ℕ → Result (List ℕ) Fault → Result MemberTree Fault
  by_abi name o = o >>= λ abi. by_sig name abi (signature_of t row)

  abbrev by_name : Result (List ℕ) Fault → Result MemberTree Fault
  by_name o = o >>= λ name. by_abi name (abi_of t row (numbered_name name (count name)))

  with_abi : (name shown : List ℕ) (o : Result (List ℕ) Fault) → name_in t tables.MethodDef row 3 ≡ Ok name → shown ≡ name
      → abi_of t row (numbered_name shown (count shown)) ≡ o → member_by t count (OfMethod row) ≡ by_abi name o
  with_abi name shown o n s a = ap by_name n ∙ ap (by_abi name) (ap (λ (x : List ℕ). abi_of t row (numbered_name x (count x))) (sym s) ∙ a)

  pub method_is : (name shown abi : List ℕ) (sig : SignatureTree) → name_in t tables.MethodDef row 3 ≡ Ok name → shown ≡ name
      → abi_of t row (numbered_name shown (count shown)) ≡ Ok abi → signature_of t row ≡ Ok sig → member_by t count (OfMethod row) ≡ Ok (method name abi sig)
  method_is name shown abi sig n s a g = with_abi name shown (Ok abi) n s a ∙ ap (by_sig name abi) g

  pub method_no_abi : (name shown : List ℕ) (e : Stop ImageFault) → name_in t tables.MethodDef row 3 ≡ Ok name → shown ≡ name
      → Fails e (abi_of t row (numbered_name shown (count shown))) → Fails e (member_by t count (OfMethod row))
  method_no_abi name shown Memory n s a = tt
  method_no_abi name shown (Refused f) n s a = with_abi name shown (Err (Faulty f)) n s a

  pub method_no_sig : (name shown abi : List ℕ) (e : Stop ImageFault) → name_in t tables.MethodDef row 3 ≡ Ok name → shown ≡ name
      → abi_of t row (numbered_name shown (count shown)) ≡ Ok abi → Fails e (signature_of t row) → Fails e (member_by t count (OfMethod row))
  method_no_sig name shown abi Memory n s a g = tt
  method_no_sig name shown abi (Refused f) n s a g = with_abi name shown (Ok abi) n s a ∙ ap (by_sig name abi) g
