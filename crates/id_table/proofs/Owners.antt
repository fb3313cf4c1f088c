-- Owners of ids, place by place.
use Rattle.std.proofs.Common.{◌≡◌, ◌<◌, ◌+◌, ◌↔◌, ℕ, zero, suc, Bool, true, false, not, cond, IsTrue, List, [], ◌∷◌, ◌++◌, Option, Some, None, ◌⊎◌, inl, inr, ⊎_elim, take, get_or, length, refl, sym, ap, subst, ◌∙◌, arith, true≢false, nat_eq}
use Rattle.std.proofs.lemmas.Option.{none-some, same_Some}
use Rattle.std.proofs.lemmas.List.{take_more}
use Rattle.std.proofs.lemmas.Bool.Decides.{eqb_tells}
use Rattle.std.specs.Global.{Vec}
use Rattle.id_table.specs.Taken.{Kept, Has, Taken, at, IsPlain, IsTaken, AreTaken, lists_of}

has_left : (A B : List (ℕ × ℕ)) (t i : ℕ) → Has A t i → Has (A ++ B) t i
has_left [] B t i h = absurd h
has_left (x ∷ A) B t i (inl e) = inl e
has_left (x ∷ A) B t i (inr h) = inr (has_left A B t i h)

has_right : (A B : List (ℕ × ℕ)) (t i : ℕ) → Has B t i → Has (A ++ B) t i
has_right [] B t i h = h
has_right (x ∷ A) B t i h = inr (has_right A B t i h)

has_either : (A B : List (ℕ × ℕ)) (t i : ℕ) → Has (A ++ B) t i → Has A t i ⊎ Has B t i
has_either [] B t i h = inr h
has_either (x ∷ A) B t i (inl e) = inl (inl e)
has_either (x ∷ A) B t i (inr h) = ⊎_elim (λ a. inl (inr a)) (λ b. inr b) (has_either A B t i h)

pub nothing_taken : (f : ℕ → Option ℕ) → Taken f f [] false
nothing_taken f = record { kept = λ i t e. e; grown = λ i t e. inl e; met = λ t i h. absurd h; told = λ e. cc; untold = λ n t i h. absurd h }

pub has_owner : (f : ℕ → Option ℕ) (text id first : ℕ) → f id ≡ Some first → Taken f f ((text, id) ∷ []) (not (nat_eq first text))
has_owner f text id first e = record {
  kept = λ i t h. h;
  grown = λ i t h. inl h;
  met = λ t i h. ⊎_elim (λ q. (first, ap f (sym q.1) ∙ e)) (λ z. absurd z) h;
  told = λ h. record { text = text; id = id; of_list = inl (refl, refl); other = first; has = e; apart = λ q. ⊎_elim (λ s. true≢false (sym h ∙ ap not s.0)) (λ s. s.1 q) (eqb_tells first text) };
  untold = λ n t i h. ⊎_elim (λ q. ap f (sym q.1) ∙ e ∙ ap (λ x. Some x) (⊎_elim (λ s. s.1) (λ s. absurd (n (ap not s.0))) (eqb_tells first text) ∙ q.0)) (λ z. absurd z) h;
}

pub taken_then : (f g h : ℕ → Option ℕ) (A B : List (ℕ × ℕ)) (a b both : Bool) → Taken f g A a → Taken g h B b → IsTrue both ↔ (IsTrue a ⊎ IsTrue b) → Taken f h (A ++ B) both
taken_then f g h A B a b both p q e = record {
  kept = λ i t x. q.kept i t (p.kept i t x);
  grown = λ i t x. ⊎_elim (λ y. ⊎_elim (λ z. inl z) (λ z. inr (has_left A B t i z)) (p.grown i t y)) (λ y. inr (has_right A B t i y)) (q.grown i t x);
  met = λ t i x. ⊎_elim (λ y. (let s = p.met t i y in (s.0, q.kept i s.0 s.1))) (λ y. q.met t i y) (has_either A B t i x);
  told = λ x. ⊎_elim
      (λ y. (let n = p.told y in record { text = n.text; id = n.id; of_list = has_left A B n.text n.id n.of_list; other = n.other; has = q.kept n.id n.other n.has; apart = n.apart }))
      (λ y. (let n = q.told y in record { text = n.text; id = n.id; of_list = has_right A B n.text n.id n.of_list; other = n.other; has = n.has; apart = n.apart })) (e.0 x);
  untold = λ n t i x. ⊎_elim (λ y. q.kept i t (p.untold (λ z. n (e.1 (inl z))) t i y)) (λ y. q.untold (λ z. n (e.1 (inr z))) t i y) (has_either A B t i x);
}

pub taken_turn : (f g h : ℕ → Option ℕ) (items : List (ℕ × ℕ)) (i : ℕ) (d : ℕ × ℕ) (a b both : Bool) → i < length items → Taken f g (take i items) a → Taken g h (get_or items i d ∷ []) b → IsTrue both ↔ (IsTrue a ⊎ IsTrue b) → Taken f h (take (i + 1) items) both
taken_turn f g h items i d a b both l p q e = subst (λ xs. Taken f h xs both) (sym (take_more items i d l)) (taken_then f g h (take i items) (get_or items i d ∷ []) a b both p q e)

-- the owners before a place
pub record Before (f : ℕ → Option ℕ) (g : ℕ → Option ℕ) (places : List (List (ℕ × ℕ))) (n : ℕ) : Type 0 where
  pub kept : Kept f g
  pub sound : (i s : ℕ) → g i ≡ Some s → (f i ≡ Some s) ⊎ ((j : ℕ) × (j < n) × Has (at places j) s i)
  pub full : (j t i : ℕ) → j < n → Has (at places j) t i → (s : ℕ) × (g i ≡ Some s)

pub before_none : (f : ℕ → Option ℕ) (places : List (List (ℕ × ℕ))) → Before f f places 0
before_none f places = record { kept = λ i t e. e; sound = λ i s e. inl e; full = λ j t i l h. absurd (omega (arith, l)) }

module _ (f g h : ℕ → Option ℕ) (places : List (List (ℕ × ℕ))) (n : ℕ) (b : Before f g places n) (taken : Bool) (t : Taken g h (at places n) taken) where
  pub before_more : Before f h places (n + 1)
  before_more = record {
    kept = λ i s e. t.kept i s (b.kept i s e);
    sound = λ i s e. ⊎_elim (λ x. ⊎_elim (λ y. inl y) (λ y. inr (y.0, (let l = y.1 in omega (arith, l)), y.2)) (b.sound i s x)) (λ x. inr (n, omega arith, x)) (t.grown i s e);
    full = λ j s i l x. ⊎_elim (λ q. t.met s i (subst (λ y. Has (at places y) s i) q.1 x)) (λ q. (let r = b.full j s i (let a = q.1 in omega (arith, l, a)) x in (r.0, t.kept i r.0 r.1))) (eqb_tells j n);
  }

  pub taken_is : IsPlain f places → IsTrue taken ↔ IsTaken f places n
  taken_is p = (λ e. to e, λ k. from k)
    where
      to : IsTrue taken → IsTaken f places n
      to e = let a = t.told e in record {
        text = a.text;
        id = a.id;
        stands = a.of_list;
        other = a.other;
        apart = a.apart;
        earlier = ⊎_elim (λ x. ⊎_elim (λ y. inl y) (λ y. inr (y.0, (let l = y.1 in omega (arith, l)), y.2)) (b.sound a.id a.other x)) (λ x. inr (n, omega arith, x)) (t.grown a.id a.other a.has);
      }

      clash : (k : IsTaken f places n) → (IsTrue taken → ⊥) → ⊥
      clash k free =
          let mine : h k.id ≡ Some k.text = t.untold free k.text k.id k.stands in
          ⊎_elim
          (λ x. k.apart (same_Some k.other k.text (sym (t.kept k.id k.other (b.kept k.id k.other x)) ∙ mine)))
          (λ x. ⊎_elim
          (λ q. k.apart (same_Some k.other k.text (sym (t.untold free k.other k.id (subst (λ y. Has (at places y) k.other k.id) q.1 x.2)) ∙ mine)))
          (λ q.
          let low : x.0 < n = (let a = q.1 in let l = x.1 in omega (arith, a, l)) in
          let s = b.full x.0 k.other k.id low x.2 in
          let same : s.0 ≡ k.text = same_Some s.0 k.text (sym (t.kept k.id s.0 s.1) ∙ mine) in
          ⊎_elim
          (λ y. p.strange k.text k.id k.id n (y ∙ ap (λ z. Some z) same) k.stands)
          (λ y. (let w = y.1 in let o = p.once k.text k.id k.id y.0 n (subst (λ z. Has (at places y.0) z k.id) same y.2) k.stands in omega (arith, w, o)))
          (b.sound k.id s.0 s.1))
          (eqb_tells x.0 n)) k.earlier

      either : (c : Bool) → (IsTrue c → ⊥) ⊎ IsTrue c
      either true = inr refl
      either false = inl (λ e. cc)

      from : IsTaken f places n → IsTrue taken
      from k = ⊎_elim (λ free. absurd (clash k free)) (λ e. e) (either taken)

pub new_owner : (f g : ℕ → Option ℕ) (text id : ℕ) → f id ≡ None → ((q : ℕ) → g q ≡ cond (nat_eq id q) (Some text) (f q)) → Taken f g ((text, id) ∷ []) false
new_owner f g text id new u = record {
  kept = λ i t e. ⊎_elim (λ a. absurd (none-some t (sym new ∙ (ap f a.0 ∙ e)))) (λ a. a ∙ e) (split i);
  grown = λ i t e. ⊎_elim (λ a. inr (inl (same_Some text t (sym a.1 ∙ e), a.0))) (λ a. inl (sym a ∙ e)) (split i);
  met = λ t i h. ⊎_elim (λ q. (text, ap g (sym q.1) ∙ here)) (λ z. absurd z) h;
  told = λ e. cc;
  untold = λ n t i h. ⊎_elim (λ q. ap g (sym q.1) ∙ here ∙ ap (λ x. Some x) q.0) (λ z. absurd z) h;
}
  where
    split : (q : ℕ) → ((id ≡ q) × (g q ≡ Some text)) ⊎ (g q ≡ f q)
    split q = ⊎_elim (λ t. inl (t.1, u q ∙ ap (λ b. cond b (Some text) (f q)) t.0)) (λ t. inr (u q ∙ ap (λ b. cond b (Some text) (f q)) t.0)) (eqb_tells id q)

    here : g id ≡ Some text
    here = ⊎_elim (λ t. t.1) (λ t. ⊎_elim (λ a. u id ∙ ap (λ b. cond b (Some text) (f id)) a.0) (λ a. absurd (a.1 refl)) (eqb_tells id id)) (split id)

answer_left : (on : List Bool) (b : Bool) (k : ℕ) → k < length on → get_or (on ++ b ∷ []) k false ≡ get_or on k false
answer_left [] b k l = absurd (omega (arith, l))
answer_left (x ∷ on) b zero l = refl
answer_left (x ∷ on) b (suc k) l = answer_left on b k (omega (arith, l))

answer_last : (on : List Bool) (b : Bool) → get_or (on ++ b ∷ []) (length on) false ≡ b
answer_last [] b = refl
answer_last (x ∷ on) b = answer_last on b

pub answer_more : (f : ℕ → Option ℕ) (places : List (List (ℕ × ℕ))) (n : ℕ) (on new : List Bool) (b : Bool) → length on ≡ n → new ≡ on ++ b ∷ [] → AreTaken f places n on → IsTrue b ↔ IsTaken f places n → AreTaken f places (n + 1) new
answer_more f places n on new b len is a h k l = ⊎_elim
    (λ q. (let e : get_or new k false ≡ b = ap (λ xs. get_or xs k false) is ∙ ap (λ j. get_or (on ++ b ∷ []) j false) (q.1 ∙ sym len) ∙ answer_last on b in
    (λ t. subst (IsTaken f places) (sym q.1) (h.0 (sym e ∙ t)), λ t. e ∙ h.1 (subst (IsTaken f places) q.1 t))))
    (λ q. (let low : k < n = (let a = q.1 in omega (arith, a, l)) in let e : get_or new k false ≡ get_or on k false = ap (λ xs. get_or xs k false) is ∙ answer_left on b k (omega (arith, low, len)) in
    (λ t. (a k low).0 (sym e ∙ t), λ t. e ∙ (a k low).1 t)))
    (eqb_tells k n)

pub place_is : (places : List (Vec (ℕ × ℕ))) (i : ℕ) (v : Vec (ℕ × ℕ)) → i < length places → v ≡ get_or places i v → at (lists_of places) i ≡ v.items
place_is [] i v l e = absurd (omega (arith, l))
place_is (p ∷ ps) zero v l e = ap (λ (w : Vec (ℕ × ℕ)). w.items) (sym e)
place_is (p ∷ ps) (suc i) v l e = place_is ps i v (omega (arith, l)) e
