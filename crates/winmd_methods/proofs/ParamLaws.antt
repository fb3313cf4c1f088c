-- Names of parameters, step by step.
use Rattle.std.proofs.Common.{◌≡◌, ℕ, suc, List, [], ◌∷◌, ◌++◌, map, Option, Result, Ok, Err, refl, sym, ap, ◌∙◌, append_assoc}
use Rattle.std.proofs.lemmas.List.{map-append}
use Rattle.md_schema.specs.declared.faults.ImageFault.{ImageFault}
use Rattle.ranked.specs.declared.stop.Stop.{Stop}
use Rattle.ranked.specs.declared.stop.Stop.TheVariants as stops
use Rattle.winmd_cells.specs.Given.{Fails}
use Rattle.winmd_source.specs.Behind.{behind}
use Rattle.wr_base.specs.declared.declaration.Param.{Param}
use Rattle.md_schema.specs.declared.faults.ImageKind.TheVariants.{BadShape}
use Rattle.md_schema.specs.declared.table.Table.TheVariants as tables
use Rattle.winmd_rows.specs.Faults.{Fault, ◌>>=◌, each, the_one}
use Rattle.winmd_lines.specs.Cells.{Numbered, Tables, at, bytes_in, list_of, name_in}
use Rattle.winmd_sets.specs.Blobs.{method_of}
use Rattle.winmd_sets.specs.Methods.{of_sequence, params_from, sequenced, signature_of, with_names}
use Rattle.wr_base.specs.Trees.{ParamTree, SignatureTree, UseTree, param_tree}
use Rattle.winmd_methods.specs.Seen.{few_params, named_param, named_signature, param_name, params_by, whole_signature, with_name}

-- two steps, and what follows them
pub regroup : {A B C : Type 0} (one : Result A Fault) (f : A → Result B Fault) (g : B → Result C Fault) → ((one >>= f) >>= g) ≡ (one >>= λ x. (f x >>= g))
regroup (Ok x) f g = refl
regroup (Err e) f g = refl

pub same_params : (t : Tables) (offset : ℕ) (rows : List (ℕ × Numbered)) (n : ℕ) (ps : List ParamTree) → params_from t offset rows n ps ≡ params_by t offset rows n ps
same_params t offset rows n [] = refl
same_params t offset rows n (p ∷ ps) =
    ap (λ (tail : Result (List ParamTree) Fault). the_one BadShape offset (of_sequence n rows) >>= λ row. (name_in t tables.Param row 2 >>= λ name. (tail >>= λ others. Ok (with_name name p ∷ others)))) (same_params t offset rows (suc n) ps)
    ∙ sym (regroup (the_one BadShape offset (of_sequence n rows)) (λ row. name_in t tables.Param row 2) (λ name. (params_by t offset rows (suc n) ps >>= λ others. Ok (with_name name p ∷ others))))

-- a signature with the names of its parameters
abbrev made_as : Option UseTree → List ParamTree → Result SignatureTree Fault
made_as result params = Ok (record { params = params; result = result })

pub named : (t : Tables) (n : ℕ) (sig : SignatureTree) → with_names t n sig ≡ named_signature t n sig
named t n sig = listed (list_of t tables.MethodDef 5 tables.Param n)
  where
    rowed : (rows : Result (List (ℕ × Numbered)) Fault) →
        (rows >>= λ found. (params_from t (at t tables.MethodDef n 5) found 1 sig.params >>= made_as sig.result)) ≡ ((rows >>= λ found. params_by t (at t tables.MethodDef n 5) found 1 sig.params) >>= made_as sig.result)
    rowed (Ok rows) = ap (λ (params : Result (List ParamTree) Fault). params >>= made_as sig.result) (same_params t (at t tables.MethodDef n 5) rows 1 sig.params)
    rowed (Err e) = refl

    listed : (list : Result (List Numbered) Fault) →
        (list >>= λ rows. (each (sequenced t) rows >>= λ found. (params_from t (at t tables.MethodDef n 5) found 1 sig.params >>= made_as sig.result)))
        ≡ ((list >>= λ rows. (each (sequenced t) rows >>= λ found. params_by t (at t tables.MethodDef n 5) found 1 sig.params)) >>= made_as sig.result)
    listed (Ok list) = rowed (each (sequenced t) list)
    listed (Err e) = refl

pub whole : (t : Tables) (row : Numbered) → signature_of t row ≡ whole_signature t row
whole t row = sym (regroup (bytes_in row.1 4) (λ blob. method_of t (at t tables.MethodDef row.0 4) blob) (λ sig. few_params t (at t tables.MethodDef row.0 4) row.0 sig))

-- ---- parameters, one more at each turn

one_by_one : (t : Tables) (offset : ℕ) (rows : List (ℕ × Numbered)) (n : ℕ) (p : ParamTree) (ps : List ParamTree) → params_by t offset rows n (p ∷ ps) ≡ (named_param t offset rows n p >>= λ q. (params_by t offset rows (suc n) ps >>= λ others. Ok (q ∷ others)))
one_by_one t offset rows n p ps = sym (regroup (param_name t offset rows n) (λ name. Ok (with_name name p)) (λ q. (params_by t offset rows (suc n) ps >>= λ others. Ok (q ∷ others))))

behind_one : (front : List ParamTree) (q : ParamTree) (o : Result (List ParamTree) Fault) → ((o >>= λ others. Ok (q ∷ others)) >>= λ xs. Ok (front ++ xs)) ≡ behind (front ++ q ∷ []) o
behind_one front q (Ok others) = ap (λ xs. Ok xs) (sym (append_assoc front (q ∷ []) others))
behind_one front q (Err e) = refl

pub params_turn : (t : Tables) (offset : ℕ) (rows : List (ℕ × Numbered)) (n m : ℕ) (items new : List Param) (x p : Param) (ps rest : List Param) (whole : Result (List ParamTree) Fault)
    → rest ≡ p ∷ ps → named_param t offset rows n (param_tree p) ≡ Ok (param_tree x) → m ≡ suc n → new ≡ items ++ x ∷ []
    → behind (map param_tree items) (params_by t offset rows n (map param_tree rest)) ≡ whole → behind (map param_tree new) (params_by t offset rows m (map param_tree ps)) ≡ whole
params_turn t offset rows n m items new x p ps rest whole here was next pushed so_far =
    ap (λ xs. behind xs (params_by t offset rows m (map param_tree ps))) (ap (map param_tree) pushed ∙ map-append param_tree items (x ∷ []))
    ∙ ap (λ k. behind (map param_tree items ++ param_tree x ∷ []) (params_by t offset rows k (map param_tree ps))) next
    ∙ sym (behind_one (map param_tree items) (param_tree x) (params_by t offset rows (suc n) (map param_tree ps)))
    ∙ ap (behind (map param_tree items)) (sym (one_by_one t offset rows n (param_tree p) (map param_tree ps) ∙ ap (λ o. o >>= λ q. (params_by t offset rows (suc n) (map param_tree ps) >>= λ others. Ok (q ∷ others))) was))
    ∙ ap (λ xs. behind (map param_tree items) (params_by t offset rows n (map param_tree xs))) (sym here) ∙ so_far

pub params_stop : (t : Tables) (offset : ℕ) (rows : List (ℕ × Numbered)) (n : ℕ) (items : List Param) (p : Param) (ps rest : List Param) (stop : Stop ImageFault) (whole : Result (List ParamTree) Fault)
    → rest ≡ p ∷ ps → Fails stop (named_param t offset rows n (param_tree p)) → behind (map param_tree items) (params_by t offset rows n (map param_tree rest)) ≡ whole → Fails stop whole
params_stop t offset rows n items p ps rest stops.Memory whole here h so_far = tt
params_stop t offset rows n items p ps rest (stops.Refused e) whole here h so_far =
    sym so_far ∙ ap (λ xs. behind (map param_tree items) (params_by t offset rows n (map param_tree xs))) here
    ∙ ap (behind (map param_tree items)) (one_by_one t offset rows n (param_tree p) (map param_tree ps) ∙ ap (λ o. o >>= λ q. (params_by t offset rows (suc n) (map param_tree ps) >>= λ others. Ok (q ∷ others))) h)
