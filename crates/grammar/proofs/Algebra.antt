-- Productions that take the same lists, with the same values.
use Rattle.std.proofs.Common.{◌≡◌, List, [], ◌++◌, refl, sym, ap, subst, ◌∙◌, append_assoc, inl, inr}
use Rattle.std.proofs.lemmas.List.{append-nil}
use Rattle.grammar.specs.Productions.{Done, Then, Either}

pub record Same {T A : Type 0} (P Q : List T → A → Type 0) : Type 0 where
  pub there : (ts : List T) (x : A) → P ts x → Q ts x
  pub back : (ts : List T) (x : A) → Q ts x → P ts x

pub same : {T A : Type 0} (P : List T → A → Type 0) → Same P P
same P = record { there = λ ts x h. h; back = λ ts x h. h }

pub turned : {T A : Type 0} {P Q : List T → A → Type 0} → Same P Q → Same Q P
turned s = record { there = s.back; back = s.there }

infixl 5 ◌⇒◌
pub ◌⇒◌ : {T A : Type 0} {P Q R : List T → A → Type 0} → Same P Q → Same Q R → Same P R
s ⇒ t = record { there = λ ts x h. t.there ts x (s.there ts x h); back = λ ts x h. s.back ts x (t.back ts x h) }

pub in_either : {T A : Type 0} {P P' Q Q' : List T → A → Type 0} → Same P P' → Same Q Q' → Same (Either P Q) (Either P' Q')
in_either s t = record {
  there = λ ts x h. elim h [ inl p ↦ inl (s.there ts x p) | inr q ↦ inr (t.there ts x q) ];
  back = λ ts x h. elim h [ inl p ↦ inl (s.back ts x p) | inr q ↦ inr (t.back ts x q) ];
}

pub in_then : {T A B : Type 0} {P P' : List T → A → Type 0} {Q Q' : A → List T → B → Type 0} → Same P P' → ((x : A) → Same (Q x) (Q' x)) → Same (Then P Q) (Then P' Q')
in_then s t = record {
  there = λ ts x h. record { value = h.value; front = h.front; back = h.back; parts = h.parts; first = s.there h.front h.value h.first; second = (t h.value).there h.back x h.second };
  back = λ ts x h. record { value = h.value; front = h.front; back = h.back; parts = h.parts; first = s.back h.front h.value h.first; second = (t h.value).back h.back x h.second };
}

pub then_assoc : {T A B C : Type 0} (P : List T → A → Type 0) (Q : A → List T → B → Type 0) (R : B → List T → C → Type 0) → Same (Then (Then P Q) R) (Then P (λ x. Then (Q x) R))
then_assoc P Q R = record {
  there = λ ts z h.
      let g = h.first in
      record {
        value = g.value;
        front = g.front;
        back = g.back ++ h.back;
        parts = h.parts ∙ ap (λ (u : List _). u ++ h.back) g.parts ∙ append_assoc g.front g.back h.back;
        first = g.first;
        second = record { value = h.value; front = g.back; back = h.back; parts = refl; first = g.second; second = h.second };
      };
  back = λ ts z h.
      let g = h.second in
      record {
        value = g.value;
        front = h.front ++ g.front;
        back = g.back;
        parts = h.parts ∙ ap (λ (u : List _). h.front ++ u) g.parts ∙ sym (append_assoc h.front g.front g.back);
        second = g.second;
        first = record { value = h.value; front = h.front; back = g.front; parts = refl; first = h.first; second = g.first };
      };
}

pub done_then : {T A B : Type 0} (x : A) (Q : A → List T → B → Type 0) → Same (Then (Done x) Q) (Q x)
done_then {T = T} {A = A} {B = B} x Q = record {
  there = λ ts z h.
      let at : ts ≡ h.back = h.parts ∙ ap (λ (u : List T). u ++ h.back) h.first.nothing in
      subst (λ (u : List T). Q x u z) (sym at) (subst (λ (v : A). Q v h.back z) h.first.value h.second);
  back = λ ts z h. record { value = x; front = []; back = ts; parts = refl; first = record { nothing = refl; value = refl }; second = h };
}

pub then_done : {T A : Type 0} (P : List T → A → Type 0) → Same (Then P (λ x. Done x)) P
then_done {T = T} {A = A} P = record {
  there = λ ts z h.
      let at : ts ≡ h.front = h.parts ∙ ap (λ (u : List T). h.front ++ u) h.second.nothing ∙ append-nil h.front in
      subst (λ (u : List T). P u z) (sym at) (subst (λ (v : A). P h.front v) (sym h.second.value) h.first);
  back = λ ts z h. record { value = z; front = ts; back = []; parts = sym (append-nil ts); first = h; second = record { nothing = refl; value = refl } };
}

-- a choice before something, and behind something
pub either_then : {T A B : Type 0} (P Q : List T → A → Type 0) (R : A → List T → B → Type 0) → Same (Then (Either P Q) R) (Either (Then P R) (Then Q R))
either_then P Q R = record {
  there = λ ts z h. elim h.first [
    | inl p ↦ inl (record { value = h.value; front = h.front; back = h.back; parts = h.parts; first = p; second = h.second })
    | inr q ↦ inr (record { value = h.value; front = h.front; back = h.back; parts = h.parts; first = q; second = h.second })
  ];
  back = λ ts z h. elim h [
    | inl g ↦ record { value = g.value; front = g.front; back = g.back; parts = g.parts; first = inl g.first; second = g.second }
    | inr g ↦ record { value = g.value; front = g.front; back = g.back; parts = g.parts; first = inr g.first; second = g.second }
  ];
}

pub then_either : {T A B : Type 0} (P : List T → A → Type 0) (Q R : A → List T → B → Type 0) → Same (Either (Then P Q) (Then P R)) (Then P (λ x. Either (Q x) (R x)))
then_either P Q R = record {
  there = λ ts z h. elim h [
    | inl g ↦ record { value = g.value; front = g.front; back = g.back; parts = g.parts; first = g.first; second = inl g.second }
    | inr g ↦ record { value = g.value; front = g.front; back = g.back; parts = g.parts; first = g.first; second = inr g.second }
  ];
  back = λ ts z h. elim h.second [
    | inl q ↦ inl (record { value = h.value; front = h.front; back = h.back; parts = h.parts; first = h.first; second = q })
    | inr r ↦ inr (record { value = h.value; front = h.front; back = h.back; parts = h.parts; first = h.first; second = r })
  ];
}

pub either_assoc : {T A : Type 0} (P Q R : List T → A → Type 0) → Same (Either (Either P Q) R) (Either P (Either Q R))
either_assoc P Q R = record {
  there = λ ts z h. elim h [ inl g ↦ elim g [ inl p ↦ inl p | inr q ↦ inr (inl q) ] | inr r ↦ inr (inr r) ];
  back = λ ts z h. elim h [ inl p ↦ inl (inl p) | inr g ↦ elim g [ inl q ↦ inl (inr q) | inr r ↦ inr r ] ];
}

pub either_swap : {T A : Type 0} (P Q : List T → A → Type 0) → Same (Either P Q) (Either Q P)
either_swap P Q = record {
  there = λ ts z h. elim h [ inl p ↦ inr p | inr q ↦ inl q ];
  back = λ ts z h. elim h [ inl q ↦ inr q | inr p ↦ inl p ];
}

-- what stands behind a part whose value is made of its parts' values
pub pull : {T A B C : Type 0} (P : List T → A → Type 0) (f : A → B) (R : B → List T → C → Type 0) → Same (Then (Then P (λ x. Done (f x))) R) (Then P (λ x. R (f x)))
pull P f R = then_assoc P (λ x. Done (f x)) R ⇒ in_then (same P) (λ x. done_then (f x) R)

pub pull2 : {T A B C D : Type 0} (P : List T → A → Type 0) (Q : A → List T → B → Type 0) (f : A → B → C) (R : C → List T → D → Type 0)
    → Same (Then (Then P (λ x. Then (Q x) (λ y. Done (f x y)))) R) (Then P (λ x. Then (Q x) (λ y. R (f x y))))
pull2 P Q f R = then_assoc P (λ x. Then (Q x) (λ y. Done (f x y))) R ⇒ in_then (same P) (λ x. pull (Q x) (f x) R)
