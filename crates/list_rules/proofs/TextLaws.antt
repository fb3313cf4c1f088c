-- Numbers of listed texts.
use Rattle.std.proofs.Common.{◌≡◌, ◌<◌, ◌+◌, ℕ, List, [], ◌∷◌, ◌++◌, Option, Some, ⊎_elim, length, slice_get, length-append, refl, sym, ap, subst, ◌∙◌, arith}
use Rattle.std.specs.Global.{Vec}
use Rattle.std.proofs.lemmas.Option.{same_Some}
use Rattle.chains.specs.Graphs.{steps_of}
use Rattle.chains.specs.Groups.{graph_of}
use Rattle.chains.proofs.Marking.{same_or_not}
use Rattle.wr_base.specs.declared.declaration.Declaration.{Declaration}
use Rattle.numbered.specs.Numbers.{Kept, NumbersBy}
use Rattle.numbered.proofs.Puts.{kept_numbers, map_both}
use Rattle.numbered.proofs.Tables.{steps_left, steps_last}
use Rattle.list_rules.specs.Texts.{texts_in, AreSets}

pub sets_none : (T : List ℕ → Option ℕ) (types : List Declaration) → AreSets T types 0 []
sets_none T types = record { size = refl; sets_ = λ k d l at. absurd (omega (arith, l)) }

-- one more row behind the others
pub row_behind : (rows : List (List ℕ)) (row : List ℕ) (i : ℕ) → length rows ≡ i → steps_of (rows ++ row ∷ []) i ≡ row
row_behind rows row i e = subst (λ (n : ℕ). steps_of (rows ++ row ∷ []) n ≡ row) e (steps_last rows row)

pub row_before : (rows : List (List ℕ)) (row : List ℕ) (i k : ℕ) → length rows ≡ i → k < i → steps_of (rows ++ row ∷ []) k ≡ steps_of rows k
row_before rows row i k e l = steps_left rows row k (omega (arith, e, l))

pub one_item : {X : Type 0} (xs : List X) (i : ℕ) (x y : X) → slice_get xs i ≡ Some x → slice_get xs i ≡ Some y → x ≡ y
one_item xs i x y e f = same_Some x y (sym e ∙ f)

pub size_more : (rows : List (List ℕ)) (row : List ℕ) (i : ℕ) → length rows ≡ i → length (rows ++ row ∷ []) ≡ i + 1
size_more rows row i e = let a = length-append rows (row ∷ []) in omega (arith, a, e)

module _ (T T2 : List ℕ → Option ℕ) (types : List Declaration) (i : ℕ) (d : Declaration) (at : slice_get types i ≡ Some d) (kept : Kept T T2) (rows : List (List ℕ)) (row : List ℕ) (s : AreSets T types i rows)
    (n : NumbersBy (λ t. t) T2 (texts_in d) row) where
  one_set : (k : ℕ) (e : Declaration) → k < i + 1 → slice_get types k ≡ Some e → NumbersBy (λ t. t) T2 (texts_in e) (steps_of (rows ++ row ∷ []) k)
  one_set k e l here = ⊎_elim
      (λ q.
      let same : d ≡ e = one_item types i d e at (subst (λ (j : ℕ). slice_get types j ≡ Some e) q here) in
      subst (λ (r : List ℕ). NumbersBy (λ t. t) T2 (texts_in e) r) (sym (ap (steps_of (rows ++ row ∷ [])) q ∙ row_behind rows row i s.size)) (subst (λ (x : Declaration). NumbersBy (λ t. t) T2 (texts_in x) row) same n))
      (λ ne.
      let low : k < i = omega (arith, l, ne) in
      subst (λ (r : List ℕ). NumbersBy (λ t. t) T2 (texts_in e) r) (sym (row_before rows row i k s.size low)) (kept_numbers (λ t. t) T T2 (texts_in e) (steps_of rows k) kept (s.sets_ k e low here)))
      (same_or_not k i)

  sets_behind : AreSets T2 types (i + 1) (rows ++ row ∷ [])
  sets_behind = record { size = size_more rows row i s.size; sets_ = one_set }

pub sets_more : (T T2 : List ℕ → Option ℕ) (types : List Declaration) (i : ℕ) (d : Declaration) (old new : List (Vec ℕ)) (set : Vec ℕ) → i < length types → slice_get types i ≡ Some d → Kept T T2 → AreSets T types i (graph_of old) → new ≡ old ++ set ∷ []
    → NumbersBy (λ t. t) T2 (texts_in d) set.items → AreSets T2 types (i + 1) (graph_of new)
sets_more T T2 types i d old new set l at kept s is n =
    subst (AreSets T2 types (i + 1)) (sym (ap graph_of is ∙ map_both (λ (v : Vec ℕ). v.items) old (set ∷ []))) (sets_behind T T2 types i d at kept (graph_of old) set.items s n)
