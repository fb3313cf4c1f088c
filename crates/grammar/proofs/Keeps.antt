-- What holds of every token of a list holds of the value that the list spells.
use Rattle.std.proofs.Common.{◌≡◌, ℕ, true, List, [], ◌∷◌, ◌++◌, Option, Some, None, sym, subst}
use Rattle.std.specs.List.{All}
use Rattle.std.specs.Option.{IfSome}
use Rattle.std.proofs.lemmas.List.Elements.{All-nil, All-cons, All-head, All-tail}
use Rattle.grammar.specs.Productions.{has, One, Done, Then, Optional, Many, Trailing}

-- P of every element
abbrev pub Each : {X : Type 0} → (X → Type 0) → List X → Type 0
Each P [] = Unit {0}
Each P (x ∷ xs) = P x × Each P xs

pub each_of : {X : Type 0} (P : X → Type 0) (xs : List X) → All P xs → Each P xs
each_of P [] h = tt
each_of P (x ∷ xs) h = (All-head P x xs h, each_of P xs (All-tail P x xs h))

pub all_of : {X : Type 0} (P : X → Type 0) (xs : List X) → Each P xs → All P xs
all_of P [] h = All-nil P
all_of P (x ∷ xs) h = All-cons P x xs h.0 (all_of P xs h.1)

each_front : {X : Type 0} (P : X → Type 0) (xs ys : List X) → Each P (xs ++ ys) → Each P xs
each_front P [] ys h = tt
each_front P (x ∷ xs) ys h = (h.0, each_front P xs ys h.1)

each_back : {X : Type 0} (P : X → Type 0) (xs ys : List X) → Each P (xs ++ ys) → Each P ys
each_back P [] ys h = h
each_back P (x ∷ xs) ys h = each_back P xs ys h.1

-- a value that P spells by tokens of Q has H
pub record Keeps {T A : Type 0} (Q : T → Type 0) (P : List T → A → Type 0) (H : A → Type 0) : Type 0 where
  pub keeps : (ts : List T) (x : A) → Each Q ts → P ts x → H x

pub keeps_one : {T : Type 0} {Q : T → Type 0} (kind : T → ℕ) (kinds : List ℕ) (H : T → Type 0) → ((t : T) → Q t → has kinds (kind t) ≡ true → H t) → Keeps Q (One kind kinds) H
keeps_one {T = T} {Q = Q} kind kinds H use_ = record { keeps = λ ts t q h. use_ t ((subst (λ (u : List T). Each Q u) h.alone q).0) h.fits }

pub keeps_done : {T A : Type 0} {Q : T → Type 0} (x : A) (H : A → Type 0) → H x → Keeps Q (Done x) H
keeps_done x H h = record { keeps = λ ts y q d. subst H (sym d.value) h }

pub keeps_then : {T A B : Type 0} {Q : T → Type 0} {P : List T → A → Type 0} {R : A → List T → B → Type 0} {H : A → Type 0} {K : B → Type 0}
    → Keeps Q P H → ((x : A) → H x → Keeps Q (R x) K) → Keeps Q (Then P R) K
keeps_then {T = T} {Q = Q} first second = record {
  keeps = λ ts y q h.
      let parts = subst (λ (u : List T). Each Q u) h.parts q in
      (second h.value (first.keeps h.front h.value (each_front Q h.front h.back parts) h.first)).keeps h.back y (each_back Q h.front h.back parts) h.second;
}

pub keeps_optional : {T A : Type 0} {Q : T → Type 0} {P : List T → A → Type 0} {H : A → Type 0} → Keeps Q P H → Keeps Q (Optional P) (λ o. IfSome o H)
keeps_optional {T = T} {A = A} {Q = Q} {P = P} {H = H} k = record { keeps = go }
  where
    go : (ts : List T) (o : Option A) → Each Q ts → Optional P ts o → IfSome o H
    go ts None q h = tt
    go ts (Some x) q h = k.keeps ts x q h

pub keeps_many : {T A : Type 0} {Q : T → Type 0} {P : List T → A → Type 0} {H : A → Type 0} → Keeps Q P H → Keeps Q (Many P) (Each H)
keeps_many {T = T} {A = A} {Q = Q} {P = P} {H = H} k = record { keeps = go }
  where
    go : (ts : List T) (xs : List A) → Each Q ts → Many P ts xs → Each H xs
    go ts [] q h = tt
    go ts (x ∷ xs) q h =
        let parts = subst (λ (u : List T). Each Q u) h.parts q in
        (k.keeps h.front x (each_front Q h.front h.back parts) h.first, go h.back xs (each_back Q h.front h.back parts) h.second)

-- whatever is spelled
pub keeps_any : {T A : Type 0} {Q : T → Type 0} {P : List T → A → Type 0} → Keeps Q P (λ x. Unit {0})
keeps_any = record { keeps = λ ts x q h. tt }

pub keeps_trailing : {T A B : Type 0} {Q : T → Type 0} {S : List T → B → Type 0} {P : List T → A → Type 0} {H : A → Type 0} → Keeps Q P H → Keeps Q (Trailing S P) (Each H)
keeps_trailing {H = H} k = keeps_then (keeps_many (keeps_then keeps_any (λ separator _. k))) (λ others h. keeps_then keeps_any (λ last _. keeps_done others (Each H) h))
