-- Cases one by one.
use Rattle.std.proofs.Common.{◌≡◌, ℕ, ℤ, pos, ◌+ℤ◌, zero, suc, ◌+◌, ◌<◌, ◌≤◌, List, [], ◌∷◌, ◌++◌, length, get_or, drop, refl, sym, ap, ◌∙◌, append_assoc, add-one, arith, drop-cons}
use Rattle.std.proofs.lemmas.List.{append-nil}
use Rattle.wr_base.specs.declared.declaration.Case.{Case}
use Rattle.midl_tree.specs.declared.nodes.CaseNode.{CaseNode}
use Rattle.midl_names.specs.Members.{value_or, cases_from}

next_of : {X : Type 0} (xs : List X) (i : ℕ) (x : X) → i < length xs → x ≡ get_or xs i x → drop i xs ≡ x ∷ drop (i + 1) xs
next_of xs i x l e = rw add-one (drop-cons xs i x l ∙ ap (λ y. y ∷ drop (suc i) xs) (sym e))

past : {X : Type 0} (xs : List X) (i : ℕ) → length xs ≤ i → drop i xs ≡ []
past [] zero l = refl
past [] (suc i) l = refl
past (x ∷ xs) zero l = absurd (omega arith)
past (x ∷ xs) (suc i) l = past xs i (omega arith)

pub numbered_more : (done : List Case) (next value : ℤ) (nodes : List CaseNode) (i : ℕ) (node : CaseNode) (whole : List Case) → i < length nodes → node ≡ get_or nodes i node
    → value ≡ value_or next node.value → done ++ cases_from next (drop i nodes) ≡ whole
    → (done ++ record { name = node.name.text; value = value } ∷ []) ++ cases_from (value +ℤ pos 1) (drop (i + 1) nodes) ≡ whole
numbered_more done next value nodes i node whole l e v h =
    let turn : cases_from next (drop i nodes) ≡ record { name = node.name.text; value = value } ∷ cases_from (value +ℤ pos 1) (drop (i + 1) nodes) = rw (next_of nodes i node l e, v) refl in
    append_assoc done (record { name = node.name.text; value = value } ∷ []) (cases_from (value +ℤ pos 1) (drop (i + 1) nodes)) ∙ ap (λ (u : List Case). done ++ u) (sym turn) ∙ h

pub numbered_all : (done : List Case) (next : ℤ) (nodes : List CaseNode) (i : ℕ) (whole : List Case) → length nodes ≤ i → done ++ cases_from next (drop i nodes) ≡ whole → done ≡ whole
numbered_all done next nodes i whole l h = sym (append-nil done) ∙ ap (λ (u : List CaseNode). done ++ cases_from next u) (sym (past nodes i l)) ∙ h
