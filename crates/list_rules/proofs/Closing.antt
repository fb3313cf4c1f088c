-- A set of numbers that leads out of itself stands for a list that lacks what is required.
use Rattle.std.proofs.Common.{◌≡◌, ◌↔◌, ℕ, Bool, true, false, not, ◌||◌, IsTrue, List, [], ◌∷◌, Option, Some, map, ◌⊎◌, inl, inr, ⊎_elim, refl, sym, ap, subst, ◌∙◌, true≢false}
use Rattle.std.specs.List.{list_any}
use Rattle.std.proofs.lemmas.Option.{same_Some}
use Rattle.stamps.specs.Within.{LeadsOut}
use Rattle.chains.specs.Graphs.{In, steps_of}
use Rattle.wr_base.specs.Uses.{text_of}
use Rattle.wr_base.specs.declared.declaration.Declaration.{Declaration}
use Rattle.wr_base.specs.declared.type_use.TypeUse.{TypeUse}
use Rattle.wr_rules.specs.Closures.{required_at, lists}
use Rattle.wr_rules.specs.ListRules.{lacks}
use Rattle.wr_rules.proofs.ClashLaws.{Holds, held_listed, listed_held}
use Rattle.numbered.specs.Numbers.{IsNumbering, NumbersBy}
use Rattle.numbered.specs.Tables.{OneOf}
use Rattle.numbered.proofs.Texts.{number_of_text as number_of_one, text_of_number as one_of_number}

-- what stands among texts stands there by the other relation
one_held : (ts : List (List ℕ)) (t : List ℕ) → Holds ts t → OneOf ts t
one_held [] t h = h
one_held (s ∷ ss) t (inl q) = inl q
one_held (s ∷ ss) t (inr h) = inr (one_held ss t h)

held_one : (ts : List (List ℕ)) (t : List ℕ) → OneOf ts t → Holds ts t
held_one [] t h = h
held_one (s ∷ ss) t (inl q) = inl q
held_one (s ∷ ss) t (inr h) = inr (held_one ss t h)

pub number_of_text : (key : List ℕ → List ℕ) (f : List ℕ → Option ℕ) (texts : List (List ℕ)) (list : List ℕ) (t : List ℕ) → NumbersBy key f texts list → Holds texts t → (x : ℕ) × In x list × (f (key t) ≡ Some x)
number_of_text key f texts list t e h = number_of_one key f texts list t e (one_held texts t h)

pub text_of_number : (key : List ℕ → List ℕ) (f : List ℕ → Option ℕ) (texts : List (List ℕ)) (list : List ℕ) (x : ℕ) → NumbersBy key f texts list → In x list → (t : List ℕ) × Holds texts t × (f (key t) ≡ Some x)
text_of_number key f texts list x e h = let r = one_of_number key f texts list x e h in (r.0, held_one texts r.0 r.1, r.2)

either_true : (a b : Bool) → (a || b) ≡ true → (a ≡ true) ⊎ (b ≡ true)
either_true true b e = inl refl
either_true false b e = inr e

or_true : (a b : Bool) → b ≡ true → (a || b) ≡ true
or_true true b e = refl
or_true false b e = e

one_use : (p : TypeUse → Bool) (us : List TypeUse) → list_any p us ≡ true → (u : TypeUse) × Holds (map text_of us) (text_of u) × (p u ≡ true)
one_use p [] e = cc
one_use p (u ∷ us) e = elim (either_true (p u) (list_any p us) e) [ inl h ↦ (u, inl refl, h) | inr h ↦ (let r = one_use p us h in (r.0, inr r.1, r.2)) ]

any_use : (p : TypeUse → Bool) (us : List TypeUse) (t : List ℕ) → Holds (map text_of us) t → ((u : TypeUse) → text_of u ≡ t → p u ≡ true) → list_any p us ≡ true
any_use p [] t h f = absurd h
any_use p (u ∷ us) t (inl q) f = ap (λ b. b || list_any p us) (f u q)
any_use p (u ∷ us) t (inr h) f = or_true (p u) (list_any p us) (any_use p us t h f)

tells : (b : Bool) → (b ≡ true) ⊎ (b ≡ false)
tells true = inl refl
tells false = inr refl

pub same_truth : (a b : Bool) → (a ≡ true → b ≡ true) → (b ≡ true → a ≡ true) → a ≡ b
same_truth true b f g = sym (f refl)
same_truth false true f g = g refl
same_truth false false f g = refl

module _ (types : List Declaration) (T : List ℕ → Option ℕ) (count : ℕ) (numbering : IsNumbering T count) (graph : List (List ℕ)) (list : List TypeUse) (from : List ℕ)
    (first : NumbersBy (λ t. t) T (map text_of list) from)
    (steps : (t : List ℕ) (k : ℕ) → T t ≡ Some k → NumbersBy (λ s. s) T (map text_of (required_at types t)) (steps_of graph k)) where
  out_told : lacks types list ≡ true → LeadsOut graph from
  out_told e =
      let u = one_use (λ u. list_any (λ r. not (lists list (text_of r))) (required_at types (text_of u))) list e in
      let r = one_use (λ r. not (lists list (text_of r))) (required_at types (text_of u.0)) u.2 in
      let a = number_of_text (λ s. s) T (map text_of list) from (text_of u.0) first u.1 in
      let b = number_of_text (λ s. s) T (map text_of (required_at types (text_of u.0))) (steps_of graph a.0) (text_of r.0) (steps (text_of u.0) a.0 a.2) r.1 in
      record {
        a = a.0;
        b = b.0;
        from = a.1;
        step = b.1;
        lacks = λ h.
            let t = text_of_number (λ s. s) T (map text_of list) from b.0 first h in
            let same : t.0 ≡ text_of r.0 = numbering.apart t.0 (text_of r.0) b.0 t.2 b.2 in
            true≢false (sym r.2 ∙ ap not (held_listed types list (text_of r.0) (subst (Holds (map text_of list)) same t.1)));
      }

  tell_out : LeadsOut graph from → lacks types list ≡ true
  tell_out o =
      let t = text_of_number (λ s. s) T (map text_of list) from o.a first o.from in
      let r = text_of_number (λ s. s) T (map text_of (required_at types t.0)) (steps_of graph o.a) o.b (steps t.0 o.a t.2) o.step in
      let unlisted : not (lists list r.0) ≡ true = ⊎_elim
      (λ y. (let x = number_of_text (λ s. s) T (map text_of list) from r.0 first (listed_held types list r.0 y) in absurd (o.lacks (subst (λ z. In z from) (same_Some x.0 o.b (sym x.2 ∙ r.2)) x.1))))
      (λ y. ap not y) (tells (lists list r.0)) in
      any_use (λ u. list_any (λ v. not (lists list (text_of v))) (required_at types (text_of u))) list t.0 t.1
      (λ u q. subst (λ s. list_any (λ v. not (lists list (text_of v))) (required_at types s) ≡ true) (sym q)
      (any_use (λ v. not (lists list (text_of v))) (required_at types t.0) r.0 r.1 (λ v p. subst (λ s. not (lists list s) ≡ true) (sym p) unlisted)))

  -- what `leads_out` answers is what the rule asks
  pub lacks_is : (b : Bool) → IsTrue b ↔ LeadsOut graph from → b ≡ lacks types list
  lacks_is b h = same_truth b (lacks types list) (λ t. tell_out (h.0 t)) (λ t. h.1 (out_told t))
