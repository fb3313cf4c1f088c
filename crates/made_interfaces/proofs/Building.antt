-- What is built part by part: factory methods, and the places of constructors.
use Rattle.std.proofs.Common.{◌≡◌, ℕ, suc, ◌+◌, ◌<◌, ◌≤◌, Bool, true, false, cond, List, [], ◌∷◌, ◌++◌, Option, Some, None, length, take, get_or, refl, sym, ap, subst, ◌∙◌, arith, inl, inr}
use Rattle.std.specs.Prelude.{slice_get}
use Rattle.std.specs.List.{filter}
use Rattle.std.proofs.lemmas.List.{take_more, length-append, append-nil}
use Rattle.std.proofs.lemmas.List.Elements.{filter-append}
use Rattle.ranked.specs.declared.place.Place.{Place}
use Rattle.wr_base.specs.declared.declaration.Signature.{Signature}
use Rattle.wr_base.specs.declared.declaration.Member.{Member}
use Rattle.wr_base.proofs.PartLaws.{either}
use Rattle.made_interfaces.specs.Made.{factory_method, factory_methods, takes_some, chosen}
use Rattle.made_interfaces.specs.Steps.{methods_with, places_with}

-- one constructor more at the end
methods_more : (class : List ℕ) (k : ℕ) (ss : List Signature) (s : Signature) → factory_methods class k (ss ++ s ∷ []) ≡ factory_methods class k ss ++ factory_method class (k + length ss) s ∷ []
methods_more class k [] s = ap (λ n. factory_method class n s ∷ []) (omega arith)
methods_more class k (t ∷ ts) s =
    ap (λ ms. factory_method class k t ∷ ms) (methods_more class (k + 1) ts s ∙ ap (λ n. factory_methods class (k + 1) ts ++ factory_method class n s ∷ []) (omega arith))

pub methods_length : (class : List ℕ) (k : ℕ) (ss : List Signature) → length (factory_methods class k ss) ≡ length ss
methods_length class k [] = refl
methods_length class k (s ∷ ss) = ap suc (methods_length class (k + 1) ss)

from_none : (n : ℕ) → n ≡ 0 + n
from_none n = omega arith

-- one more that may be passed over
with_one : (class : List ℕ) (ss : List Signature) (s : Signature) → methods_with class (factory_methods class 0 ss) s ≡ factory_methods class 0 (ss ++ cond (takes_some s) (s ∷ []) [])
with_one class ss s = elim (either (takes_some s)) [
  | inl e ↦
      ap (λ b. cond b (factory_methods class 0 ss ++ factory_method class (length (factory_methods class 0 ss)) s ∷ []) (factory_methods class 0 ss)) e
      ∙ ap (λ n. factory_methods class 0 ss ++ factory_method class n s ∷ []) (methods_length class 0 ss ∙ from_none (length ss))
      ∙ sym (methods_more class 0 ss s)
      ∙ sym (ap (λ b. factory_methods class 0 (ss ++ cond b (s ∷ []) [])) e)
  | inr e ↦
      ap (λ b. cond b (factory_methods class 0 ss ++ factory_method class (length (factory_methods class 0 ss)) s ∷ []) (factory_methods class 0 ss)) e
      ∙ sym (ap (factory_methods class 0) (append-nil ss))
      ∙ sym (ap (λ b. factory_methods class 0 (ss ++ cond b (s ∷ []) [])) e)
]

pub methods_turn : (class : List ℕ) (ss : List Signature) (i : ℕ) (s : Signature) (old new : List Member) → i < length ss → s ≡ get_or ss i s
    → old ≡ factory_methods class 0 (filter takes_some (take i ss)) → new ≡ methods_with class old s → new ≡ factory_methods class 0 (filter takes_some (take (i + 1) ss))
methods_turn class ss i s old new l is so step =
    step
    ∙ ap (λ ms. methods_with class ms s) so
    ∙ with_one class (filter takes_some (take i ss)) s
    ∙ sym (ap (factory_methods class 0) (filter-append takes_some (take i ss) (s ∷ [])))
    ∙ ap (λ z. factory_methods class 0 (filter takes_some (take i ss ++ z ∷ []))) is
    ∙ sym (ap (λ t. factory_methods class 0 (filter takes_some t)) (take_more ss i s l))

-- a place more at the end, or none
leave : (b : Bool) (p : Place) (ps : List Place) (s : Signature) (one : Option Place) → cond b (p ∷ places_with ps s one) (places_with ps s one) ≡ places_with (cond b (p ∷ ps) ps) s one
leave true p ps s None = refl
leave false p ps s one = refl
leave true p ps s (Some q) = elim (either (takes_some s)) [
  | inl e ↦ rw e refl
  | inr e ↦ rw e refl
]

chosen_none : (ss : List Signature) → chosen ss [] ≡ []
chosen_none [] = refl
chosen_none (s ∷ ss) = refl

chosen_more : (ss : List Signature) (s : Signature) (ps : List Place) → chosen (ss ++ s ∷ []) ps ≡ places_with (chosen ss ps) s (slice_get ps (length ss))
chosen_more [] s [] = refl
chosen_more [] s (p ∷ ps) = refl
chosen_more (t ∷ ts) s [] = refl
chosen_more (t ∷ ts) s (p ∷ ps) = ap (λ qs. cond (takes_some t) (p ∷ qs) qs) (chosen_more ts s ps) ∙ leave (takes_some t) p (chosen ts ps) s (slice_get ps (length ts))

pub chosen_turn : (ss : List Signature) (ps : List Place) (i : ℕ) (s : Signature) (old new : List Place) → i < length ss → s ≡ get_or ss i s → length (take i ss) ≡ i
    → old ≡ chosen (take i ss) ps → new ≡ places_with old s (slice_get ps i) → new ≡ chosen (take (i + 1) ss) ps
chosen_turn ss ps i s old new l is n so step =
    step
    ∙ ap (λ qs. places_with qs s (slice_get ps i)) so
    ∙ ap (λ k. places_with (chosen (take i ss) ps) s (slice_get ps k)) (sym n)
    ∙ sym (chosen_more (take i ss) s ps)
    ∙ ap (λ z. chosen (take i ss ++ z ∷ []) ps) is
    ∙ sym (ap (λ t. chosen t ps) (take_more ss i s l))

one_longer : (b : Bool) (ms : List Member) (m : Member) (i : ℕ) → length ms ≤ i → length (cond b (ms ++ m ∷ []) ms) ≤ i + 1
one_longer true ms m i l = omega (arith, l, length-append ms (m ∷ []))
one_longer false ms m i l = omega (arith, l)

pub methods_few : (class : List ℕ) (s : Signature) (old new : List Member) (i : ℕ) → length old ≤ i → new ≡ methods_with class old s → length new ≤ i + 1
methods_few class s old new i l step = subst (λ ms. length ms ≤ i + 1) (sym step) (one_longer (takes_some s) old (factory_method class (length old) s) i l)
