-- Rows of what numbered texts require.
use Rattle.std.proofs.Common.{◌≡◌, ◌<◌, ◌≤◌, ◌+◌, ℕ, zero, suc, List, [], ◌∷◌, ◌++◌, Some, ⊎_elim, length, slice_get, refl, sym, ap, subst, ◌∙◌, arith}
use Rattle.std.specs.Global.{Vec}
use Rattle.chains.specs.Graphs.{steps_of}
use Rattle.chains.specs.Groups.{graph_of}
use Rattle.chains.proofs.Marking.{same_or_not}
use Rattle.wr_base.specs.declared.declaration.Declaration.{Declaration}
use Rattle.numbered.proofs.Puts.{map_both}
use Rattle.list_rules.specs.Rows.{row_of, AreRows, IsGraph}
use Rattle.list_rules.proofs.TextLaws.{row_behind, row_before, one_item, size_more}

pub rows_none : (types : List Declaration) (sets : List (List ℕ)) → AreRows types sets 0 []
rows_none types sets = record { size = refl; rows_ = λ k d l at. absurd (omega (arith, l)) }

module _ (types : List Declaration) (sets : List (List ℕ)) (i : ℕ) (d : Declaration) (at : slice_get types i ≡ Some d) (rows : List (List ℕ)) (row : List ℕ) (s : AreRows types sets i rows) (n : row ≡ row_of d (steps_of sets i)) where
  one_row : (k : ℕ) (e : Declaration) → k < i + 1 → slice_get types k ≡ Some e → steps_of (rows ++ row ∷ []) k ≡ row_of e (steps_of sets k)
  one_row k e l here = ⊎_elim
      (λ q.
      let same : d ≡ e = one_item types i d e at (subst (λ (j : ℕ). slice_get types j ≡ Some e) q here) in
      ap (steps_of (rows ++ row ∷ [])) q ∙ row_behind rows row i s.size ∙ n ∙ ap (λ (x : Declaration). row_of x (steps_of sets i)) same ∙ ap (λ (j : ℕ). row_of e (steps_of sets j)) (sym q))
      (λ ne. (let low : k < i = omega (arith, l, ne) in row_before rows row i k s.size low ∙ s.rows_ k e low here))
      (same_or_not k i)

  rows_behind : AreRows types sets (i + 1) (rows ++ row ∷ [])
  rows_behind = record { size = size_more rows row i s.size; rows_ = one_row }

pub rows_more : (types : List Declaration) (sets : List (List ℕ)) (i : ℕ) (d : Declaration) (old new : List (Vec ℕ)) (row : Vec ℕ) → slice_get types i ≡ Some d → AreRows types sets i (graph_of old) → new ≡ old ++ row ∷ []
    → row.items ≡ row_of d (steps_of sets i) → AreRows types sets (i + 1) (graph_of new)
rows_more types sets i d old new row at s is n =
    subst (AreRows types sets (i + 1)) (sym (ap graph_of is ∙ map_both (λ (v : Vec ℕ). v.items) old (row ∷ []))) (rows_behind types sets i d at (graph_of old) row.items s n)

-- an empty row more changes nothing
empty_behind : (rows : List (List ℕ)) (a : ℕ) → steps_of (rows ++ [] ∷ []) a ≡ steps_of rows a
empty_behind [] zero = refl
empty_behind [] (suc a) = refl
empty_behind (r ∷ rs) zero = refl
empty_behind (r ∷ rs) (suc a) = empty_behind rs a

pub wider : (first : List (List ℕ)) (old new : List (Vec ℕ)) (row : Vec ℕ) → new ≡ old ++ row ∷ [] → row.items ≡ [] → ((a : ℕ) → steps_of (graph_of old) a ≡ steps_of first a) → (a : ℕ) → steps_of (graph_of new) a ≡ steps_of first a
wider first old new row is e h a =
    ap (λ (g : List (List ℕ)). steps_of g a) (ap graph_of is ∙ map_both (λ (v : Vec ℕ). v.items) old (row ∷ []) ∙ ap (λ (r : List ℕ). graph_of old ++ r ∷ []) e) ∙ empty_behind (graph_of old) a ∙ h a

steps_none : (rows : List (List ℕ)) (a : ℕ) → length rows ≤ a → steps_of rows a ≡ []
steps_none [] a l = refl
steps_none (r ∷ rs) zero l = absurd (omega (arith, l))
steps_none (r ∷ rs) (suc a) l = steps_none rs a (omega (arith, l))

pub there_below : (ds : List Declaration) (a : ℕ) (d : Declaration) → slice_get ds a ≡ Some d → a < length ds
there_below [] a d e = cc
there_below (x ∷ xs) zero d e = omega arith
there_below (x ∷ xs) (suc a) d e = let l = there_below xs a d e in omega (arith, l)

pub graph_is : (types : List Declaration) (sets rows graph : List (List ℕ)) (count : ℕ) → AreRows types sets (length types) rows → length graph ≡ count → ((a : ℕ) → steps_of graph a ≡ steps_of rows a) → IsGraph types sets count graph
graph_is types sets rows graph count r size same = record {
  size = size;
  rows_ = λ k d at. same k ∙ r.rows_ k d (there_below types k d at) at;
  past = λ k l. same k ∙ steps_none rows k (let s = r.size in omega (arith, s, l));
}
