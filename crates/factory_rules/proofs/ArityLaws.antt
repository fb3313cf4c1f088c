-- Numbers of parameters that repeat, told by texts of so many marks.
use Rattle.std.proofs.Common.{◌≡◌, ◌<◌, ℕ, List, [], ◌∷◌, map, length, replicate, Option, Some, None, Result, Ok, Err, IfOk, refl, sym, ap, subst, ◌∙◌}
use Rattle.std.specs.List.{filter_map}
use Rattle.std.proofs.lemmas.List.{length-replicate}
use Rattle.ranked.specs.Entries.{Entry}
use Rattle.ranked.specs.First.{IsFirst, Below, At, Only}
use Rattle.ranked.specs.Repeats.{Repeated}
use Rattle.wr_base.specs.declared.code.Code.TheVariants.{ConstructorArity}
use Rattle.wr_base.specs.declared.declaration.Signature.{Signature}
use Rattle.wr_base.specs.declared.declaration.Member.{Member}
use Rattle.wr_base.specs.declared.declaration.Member.TheVariants.{Method, Property, Event}
use Rattle.wr_rules.specs.Sites.{broken_at}
use Rattle.wr_rules.specs.Members.{Standing, signature_in}
use Rattle.wr_rules.specs.MemberRules.{with_spot}
use Rattle.wr_rules.specs.FactoryRules.{count_at}
use Rattle.place_laws.proofs.MoveLaws.{other_at, as_long}

first_same : (A B : Entry → Type 0) → ((e : Entry) → A e → B e) → ((e : Entry) → B e → A e) → (r : Option Entry) → IsFirst A r → IsFirst B r
unfolding IsFirst
first_same A B to from None h = λ e b. h e (from e b)
first_same A B to from (Some x) h = record { stands = to x h.stands; least = λ other b. h.least other (from other b) }

-- lists with one image each, whose keys are the same where the others' are, repeat alike
module _ {X Y S : Type 0} (f : X → S) (g : Y → S) (key : X → List ℕ) (other : Y → List ℕ) (entry : X → Entry) (entry_ : Y → Entry)
    (keys : (x z : X) (y w : Y) → f x ≡ g y → f z ≡ g w → key x ≡ key z → other y ≡ other w) (entries : (x : X) (y : Y) → f x ≡ g y → entry x ≡ entry_ y) where
  repeats_so : (xs : List X) (ys : List Y) → map f xs ≡ map g ys → (e : Entry) → Repeated key entry xs e → Repeated other entry_ ys e
  unfolding Below At Only
  repeats_so xs ys m e h =
      let t = other_at f g xs ys m h.0 h.2.0 h.2.1 in
      let b = h.2.2.0 in
      let u = other_at f g xs ys m b.0 b.1 b.3 in
      (h.0, subst (λ n. h.0 < n) (as_long f g xs ys m) h.1, (t.0, t.1, ((b.0, u.0, b.2, u.1, keys b.1 h.2.0 u.0 t.0 u.2 t.2 b.4), h.2.2.1 ∙ entries h.2.0 t.0 t.2)))

abbrev counted : Standing Signature → Standing (List ℕ)
counted g = record { part = length g.part.params ∷ []; spot = g.spot }

abbrev itself : Standing (List ℕ) → Standing (List ℕ)
itself o = record { part = o.part; spot = o.spot }

counts : (ms : List (Standing Member)) → map counted (filter_map (λ (m : Standing Member). with_spot m.spot (signature_in m.part)) ms) ≡ map itself (filter_map count_at ms)
counts [] = refl
counts (m ∷ ms) = elim m.part as (λ x. map counted (filter_map (λ (m : Standing Member). with_spot m.spot (signature_in m.part)) (record { part = x; spot = m.spot } ∷ ms)) ≡ map itself (filter_map count_at (record { part = x; spot = m.spot } ∷ ms))) [
  | Method name abi sig ↦ ap (λ zs. record { part = length sig.params ∷ []; spot = m.spot } ∷ zs) (counts ms)
  | Property name ty put ↦ counts ms
  | Event name ty ↦ counts ms
]

abbrev marks : Standing Signature → List ℕ
marks g = replicate (length g.part.params) 44

abbrev number : Standing (List ℕ) → List ℕ
number o = o.part

same_count : (n m : ℕ) → replicate {A = ℕ} n 44 ≡ replicate m 44 → n ≡ m
same_count n m e = sym (length-replicate {A = ℕ} n 44) ∙ ap length e ∙ length-replicate {A = ℕ} m 44

keys_to : (x z : Standing Signature) (y w : Standing (List ℕ)) → counted x ≡ itself y → counted z ≡ itself w → marks x ≡ marks z → number y ≡ number w
keys_to x z y w e f k = sym (ap number e) ∙ ap (λ n. n ∷ []) (same_count (length x.part.params) (length z.part.params) k) ∙ ap number f

keys_from : (x z : Standing (List ℕ)) (y w : Standing Signature) → itself x ≡ counted y → itself z ≡ counted w → number x ≡ number z → marks y ≡ marks w
keys_from x z y w e f k = ap (λ ns. replicate (first ns) 44) (sym (ap number e) ∙ k ∙ ap number f)
  where
    first : List ℕ → ℕ
    first [] = 0
    first (n ∷ ns) = n

pub arity_first : {E : Type 0} (r : Result (Option Entry) E) (ms : List (Standing Member)) (gs : List (Standing Signature)) → gs ≡ filter_map (λ (m : Standing Member). with_spot m.spot (signature_in m.part)) ms
    → IfOk r (IsFirst (Repeated marks (λ g. broken_at ConstructorArity g.spot) gs)) → IfOk r (IsFirst (Repeated number (λ o. broken_at ConstructorArity o.spot) (filter_map count_at ms)))
arity_first (Ok a) ms gs e h =
    let m = ap (map counted) e ∙ counts ms in
    first_same (Repeated marks (λ g. broken_at ConstructorArity g.spot) gs) (Repeated number (λ o. broken_at ConstructorArity o.spot) (filter_map count_at ms))
    (repeats_so counted itself marks number (λ g. broken_at ConstructorArity g.spot) (λ o. broken_at ConstructorArity o.spot) keys_to (λ x y i. ap (λ (s : Standing (List ℕ)). broken_at ConstructorArity s.spot) i) gs (filter_map count_at ms) m)
    (repeats_so itself counted number marks (λ o. broken_at ConstructorArity o.spot) (λ g. broken_at ConstructorArity g.spot) keys_from (λ x y i. ap (λ (s : Standing (List ℕ)). broken_at ConstructorArity s.spot) i) (filter_map count_at ms) gs (sym m))
    a h
arity_first (Err e) ms gs i h = tt
