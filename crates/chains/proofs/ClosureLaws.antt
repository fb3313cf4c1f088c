-- Finding what a list leads to.
use Rattle.std.proofs.Common.{◌≡◌, ◌<◌, ◌≤◌, ◌+◌, ◌↔◌, ℕ, zero, suc, Bool, true, false, List, [], ◌∷◌, ◌++◌, inl, ⊎_elim, refl, sym, ap, subst, ◌∙◌, arith, take, set, get_or, length, sum_by, append_assoc, append-nil, length-append, true≢false, Some, slice_get}
use Rattle.std.proofs.lemmas.List.{get_or-set_same, get_or-set_other, take_more}
use Rattle.std.proofs.lemmas.List.Sums.{sum_by-set, sum_by-cons}
use Rattle.std.proofs.lemmas.Option.{none-some, same_Some}
use Rattle.std.specs.Global.{Vec}
use Rattle.chains.specs.Groups.{graph_of}
use Rattle.chains.specs.Graphs.{In, Step, steps_of}
use Rattle.chains.specs.Closure.{Reached, start, onward, truth, Told, Met}
use Rattle.chains.proofs.Members.{In-left, In-right, In-append}
use Rattle.chains.proofs.Marking.{same_or_not, In-get_or}

-- nothing new
pub met_before : (flags : List Bool) (found : List ℕ) (x : ℕ) → Told flags found → get_or flags x false ≡ true → Met (x ∷ []) found found
met_before flags found x t e = record { extra = []; behind = sym (append-nil found); only = λ y h. absurd h; all_ = λ y h. ⊎_elim (λ q. subst (λ z. In z found) q ((t.told x).0 e)) (λ i. absurd i) h }

pub met_now : (found : List ℕ) (x : ℕ) → Met (x ∷ []) found (found ++ x ∷ [])
met_now found x = record { extra = x ∷ []; behind = refl; only = λ y h. h; all_ = λ y h. In-right y found (x ∷ []) h }

pub told_more : (flags : List Bool) (found : List ℕ) (x : ℕ) → x < length flags → Told flags found → get_or flags x false ≡ false → Told (set flags x true) (found ++ x ∷ [])
told_more flags found x l t e = record {
  told = λ y. ⊎_elim
      (λ q. (λ b. In-right y found (x ∷ []) (inl q), λ i. subst (λ z. get_or (set flags x true) z false ≡ true) q (get_or-set_same flags x true false l)))
      (λ n.
      let same : get_or (set flags x true) y false ≡ get_or flags y false = get_or-set_other flags x y true false (λ p. n (sym p)) in
      (λ b. In-left y found (x ∷ []) ((t.told y).0 (sym same ∙ b)), λ i. same ∙ ⊎_elim (λ h. (t.told y).1 h) (λ h. ⊎_elim (λ p. absurd (n p)) (λ z. absurd z) h) (In-append y found (x ∷ []) i)))
      (same_or_not x y);
  count = let s = sum_by-set truth flags x true false l in let c = t.count in omega (arith, s, c, ap truth e, length-append found (x ∷ []));
}

pub met_none : (found : List ℕ) → Met [] found found
met_none found = record { extra = []; behind = sym (append-nil found); only = λ y h. absurd h; all_ = λ y h. absurd h }

pub met_more : (list old mid new : List ℕ) (i x : ℕ) → i < length list → x ≡ get_or list i 0 → Met (take i list) old mid → Met (x ∷ []) mid new → Met (take (i + 1) list) old new
met_more list old mid new i x l e a b =
    let more : take (i + 1) list ≡ take i list ++ get_or list i 0 ∷ [] = take_more list i 0 l in
    record {
      extra = a.extra ++ b.extra;
      behind = b.behind ∙ ap (λ t. t ++ b.extra) a.behind ∙ append_assoc old a.extra b.extra;
      only = λ y h. subst (In y) (sym more) (⊎_elim
          (λ i0. In-left y (take i list) (get_or list i 0 ∷ []) (a.only y i0))
          (λ i0. In-right y (take i list) (get_or list i 0 ∷ []) (⊎_elim (λ q. inl (sym e ∙ q)) (λ z. absurd z) (b.only y i0))) (In-append y a.extra b.extra h));
      all_ = λ y h. ⊎_elim
          (λ i0. subst (In y) (sym b.behind) (In-left y mid b.extra (a.all_ y i0)))
          (λ i0. ⊎_elim (λ q. b.all_ y (inl (e ∙ q))) (λ z. absurd z) i0) (In-append y (take i list) (get_or list i 0 ∷ []) (subst (In y) more h));
    }

module _ (graph : List (List ℕ)) (from : List ℕ) where
  -- what holds after the first so many were followed
  pub record Going (found : List ℕ) (next : ℕ) : Type 0 where
    pub sound : (x : ℕ) → In x found → Reached graph from x
    pub begun : (x : ℕ) → In x from → In x found
    pub followed : (k b : ℕ) → k < next → k < length found → Step graph (get_or found k 0) b → In b found

  pub going_none : (found : List ℕ) → Met from [] found → Going found 0
  going_none found m = record {
    sound = λ x h. start (m.only x (subst (In x) m.behind h));
    begun = m.all_;
    followed = λ k b l h s. absurd (omega (arith, l));
  }

  pub going_more : (old new : List ℕ) (next : ℕ) → next < length old → Met (steps_of graph (get_or old next 0)) old new → Going old next → Going new (next + 1)
  going_more old new next l m g = record {
    sound = λ x h. ⊎_elim (λ i. g.sound x i) (λ i. onward (g.sound (get_or old next 0) (In-get_or old next l)) (m.only x i)) (In-append x old m.extra (subst (In x) m.behind h));
    begun = λ x h. subst (In x) (sym m.behind) (In-left x old m.extra (g.begun x h));
    followed = λ k b low inside s.
        let inner : k < length old = omega (arith, low, l) in
        let same : get_or new k 0 ≡ get_or old k 0 = ap (λ xs. get_or xs k 0) m.behind ∙ get_or-left old m.extra k inner in
        let s2 : Step graph (get_or old k 0) b = subst (λ a. Step graph a b) same s in
        ⊎_elim (λ q. m.all_ b (subst (λ j. Step graph (get_or old j 0) b) q s2))
        (λ n. subst (In b) (sym m.behind) (In-left b old m.extra (g.followed k b (omega (arith, low, n)) inner s2))) (same_or_not k next);
  }
    where
      get_or-left : (xs ys : List ℕ) (k : ℕ) → k < length xs → get_or (xs ++ ys) k 0 ≡ get_or xs k 0
      get_or-left [] ys k l = absurd (omega (arith, l))
      get_or-left (x ∷ xs) ys zero l = refl
      get_or-left (x ∷ xs) ys (suc k) l = get_or-left xs ys k (omega (arith, l))

  place_of : (x : ℕ) (xs : List ℕ) → In x xs → (k : ℕ) × (k < length xs) × (get_or xs k 0 ≡ x)
  place_of x [] h = absurd h
  place_of x (y ∷ ys) h = ⊎_elim (λ e. (0, omega arith, e)) (λ i. (let p = place_of x ys i in (suc p.0, omega (arith, p.1), p.2))) h

  -- at the end
  pub all_found : (found : List ℕ) (next : ℕ) → length found ≤ next → Going found next → (x : ℕ) → In x found ↔ Reached graph from x
  all_found found next l g x = (λ h. g.sound x h, λ r. back x r)
    where
      back : (y : ℕ) → Reached graph from y → In y found
      back y (start h) = g.begun y h
      back y (onward r s) = let i = back _ r in let p = place_of _ found i in g.followed p.0 y (omega (arith, p.1, l)) p.1 (subst (λ a. Step graph a y) (sym p.2) s)

-- past the end nothing is found
pub flag_within : (flags : List Bool) (x : ℕ) → get_or flags x false ≡ true → x < length flags
flag_within [] x e = absurd (true≢false (sym e))
flag_within (b ∷ bs) zero e = omega arith
flag_within (b ∷ bs) (suc x) e = let h : x < length bs = flag_within bs x e in omega (arith, h)

pub found_within : (flags : List Bool) (found : List ℕ) (x : ℕ) → Told flags found → In x found → x < length flags
found_within flags found x t h = flag_within flags x ((t.told x).1 h)

pub trues_fit : (flags : List Bool) → sum_by truth flags ≤ length flags
trues_fit [] = omega arith
trues_fit (true ∷ bs) = let h = trues_fit bs in let s = sum_by-cons truth true bs in omega (arith, h, s)
trues_fit (false ∷ bs) = let h = trues_fit bs in let s = sum_by-cons truth false bs in omega (arith, h, s)

pub room_left : (flags : List Bool) (found : List ℕ) (next : ℕ) → Told flags found → next < length found → next < length flags
room_left flags found next t l = let c = t.count in let f = trues_fit flags in omega (arith, c, f, l)

pub steps_at : (graph : List (Vec ℕ)) (a : ℕ) (v : Vec ℕ) → slice_get graph a ≡ Some v → steps_of (graph_of graph) a ≡ v.items
steps_at [] a v e = absurd (none-some v e)
steps_at (g ∷ gs) zero v e = ap (λ w. w.items) (same_Some g v e)
steps_at (g ∷ gs) (suc a) v e = steps_at gs a v e
