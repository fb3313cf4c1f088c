-- Names that are put behind others.
use Rattle.std.proofs.Common.{◌⊎◌, ◌≡◌, ℕ, zero, suc, ◌+◌, ◌<◌, ◌≤◌, Bool, true, false, ◌||◌, cond, List, [], ◌∷◌, ◌++◌, length, take, map, Option, Some, None, String, string_bytes, slice_get, refl, sym, ap, subst, ◌∙◌, arith, inl, inr, append-nil, append_assoc, true≢false}
use Rattle.std.proofs.lemmas.Bool.{cases_lt}
use Rattle.std.proofs.lemmas.List.{take-append-le, take_all, length-append, length-take-le, map-append}
use Rattle.std.proofs.lemmas.List.Folds.{list_any-append}
use Rattle.std.proofs.Math.Bool.{or-true}
use Rattle.std.proofs.lemmas.List.Sums.{fold-append}
use Rattle.std.proofs.lemmas.Option.{slice_get_within}
use Rattle.std.proofs.lemmas.Slice.Eq.{bytes_eq-Decides}
use Rattle.std.specs.List.{list_any}
use Rattle.std.specs.Str.{bytes_eq}
use Rattle.std.specs.String.{string_eq}
use Rattle.std.specs.declared.alloc.Global.{Global}
use Rattle.indexmap.specs.IndexSet.{insert_key}
use Rattle.source_set.specs.Found.{with_name, with_names}

-- ---- a set of texts

any_bytes : (k : String Global) (ks : List (String Global)) → list_any (string_eq k) ks ≡ list_any (bytes_eq (string_bytes k)) (map string_bytes ks)
any_bytes k [] = refl
any_bytes k (x ∷ xs) = ap (λ t. bytes_eq (string_bytes k) (string_bytes x) || t) (any_bytes k xs)

map_pushed : (ks : List (String Global)) (k : String Global) → map string_bytes (ks ++ k ∷ []) ≡ map string_bytes ks ++ string_bytes k ∷ []
map_pushed [] k = refl
map_pushed (x ∷ xs) k = ap (λ t. string_bytes x ∷ t) (map_pushed xs k)

chosen : (b : Bool) (ks : List (String Global)) (k : String Global)
    → map string_bytes (cond b ks (ks ++ k ∷ [])) ≡ cond b (map string_bytes ks) (map string_bytes ks ++ string_bytes k ∷ [])
chosen true ks k = refl
chosen false ks k = map_pushed ks k

-- the texts of a set with a key
pub inserted : (ks : List (String Global)) (k : String Global) → map string_bytes (insert_key string_eq ks k) ≡ with_name (map string_bytes ks) (string_bytes k)
unfolding with_name
inserted ks k =
    chosen (list_any (string_eq k) ks) ks k
    ∙ ap (λ t. cond t (map string_bytes ks) (map string_bytes ks ++ string_bytes k ∷ [])) (any_bytes k ks)

-- ---- the first n names

take_once : (n : ℕ) (names : List (List ℕ)) (name : List ℕ) → n ≤ length names → take n (with_name names name) ≡ take n names
unfolding with_name
take_once n names name le =
    elim (list_any (bytes_eq name) names) as (λ t. take n (cond t names (names ++ name ∷ [])) ≡ take n names) [
      | true ↦ refl
      | false ↦ take-append-le n names (name ∷ []) le
    ]

-- there are n names
pub full : (n : ℕ) (names : List (List ℕ)) (name : List ℕ) → length names ≡ n → names ≡ take n (with_name names name)
full n names name e = sym (take_once n names name (omega arith) ∙ take_all n names (omega arith))

pub once-le : (names : List (List ℕ)) (name : List ℕ) → length (with_name names name) ≤ length names + 1
unfolding with_name
once-le names name =
    elim (list_any (bytes_eq name) names) as (λ t. length (cond t names (names ++ name ∷ [])) ≤ length names + 1) [
      | true ↦ omega arith
      | false ↦ omega (arith, length-append names (name ∷ []))
    ]

-- there is room for a name
pub has_room : (n : ℕ) (names : List (List ℕ)) (name : List ℕ) → length names < n → with_name names name ≡ take n (with_name names name)
has_room n names name l = sym (take_all n (with_name names name) (omega (arith, once-le names name)))

-- one name more counts alike behind the first n
pub first_more : (n : ℕ) (names : List (List ℕ)) (name : List ℕ) → take n (with_name (take n names) name) ≡ take n (with_name names name)
first_more n names name = elim (cases_lt (length names) n) [
  | inl low ↦ ap (λ t. take n (with_name t name)) (take_all n names (omega (arith, low)))
  | inr high ↦
      take_once n (take n names) name (omega (arith, length-take-le n names high))
      ∙ take_all n (take n names) (omega (arith, length-take-le n names high))
      ∙ sym (take_once n names name high)
]

pub first_all : (n : ℕ) (names more : List (List ℕ)) → take n (with_names (take n names) more) ≡ take n (with_names names more)
first_all n names [] = elim (cases_lt (length names) n) [
  | inl low ↦ ap (take n) (take_all n names (omega (arith, low)))
  | inr high ↦ take_all n (take n names) (omega (arith, length-take-le n names high))
]
first_all n names (name ∷ more) =
    sym (first_all n (with_name (take n names) name) more)
    ∙ ap (λ t. take n (with_names t more)) (first_more n names name)
    ∙ first_all n (with_name names name) more

-- one word more
pub first_pushed : (n : ℕ) (words : List (List ℕ)) (word : List ℕ)
    → take n (with_name (take n (with_names [] words)) word) ≡ take n (with_names [] (words ++ word ∷ []))
first_pushed n words word = first_more n (with_names [] words) word ∙ ap (take n) (sym (fold-append with_name [] words (word ∷ [])))

-- more of them
pub first_joined : (n : ℕ) (names xs ys : List (List ℕ)) → take n (with_names (take n (with_names names xs)) ys) ≡ take n (with_names names (xs ++ ys))
first_joined n names xs ys = first_all n (with_names names xs) ys ∙ ap (take n) (sym (fold-append with_name names xs ys))

-- ---- names stay where they are

pub with_names_onto : (names more : List (List ℕ)) → (rest : List (List ℕ)) × (with_names names more ≡ names ++ rest)
unfolding with_name
with_names_onto names [] = ([], sym (append-nil names))
with_names_onto names (name ∷ more) =
    let later = with_names_onto (with_name names name) more in
    elim (list_any (bytes_eq name) names) as (λ t. (with_name names name ≡ cond t names (names ++ name ∷ [])) → (rest : List (List ℕ)) × (with_names names (name ∷ more) ≡ names ++ rest)) [
      | true ↦ λ e. (later.0, later.1 ∙ ap (λ t. t ++ later.0) e)
      | false ↦ λ e. (name ∷ later.0, later.1 ∙ ap (λ t. t ++ later.0) e ∙ append_assoc names (name ∷ []) later.0)
    ] refl

pub get_front : {X : Type 0} (xs ys : List X) (k : ℕ) → k < length xs → slice_get (xs ++ ys) k ≡ slice_get xs k
get_front [] ys k l = absurd (omega arith)
get_front (x ∷ xs) ys zero l = refl
get_front (x ∷ xs) ys (suc k) l = get_front xs ys k (omega arith)

pub get_seam : {X : Type 0} (xs : List X) (x : X) → slice_get (xs ++ x ∷ []) (length xs) ≡ Some x
get_seam [] x = refl
get_seam (y ∷ xs) x = get_seam xs x

pub stays : (names more : List (List ℕ)) (k : ℕ) (name : List ℕ) → slice_get names k ≡ Some name → slice_get (with_names names more) k ≡ Some name
stays names more k name e =
    let onto = with_names_onto names more in
    ap (λ t. slice_get t k) onto.1 ∙ get_front names onto.0 k (slice_get_within names k name e) ∙ e

pub is_longer : (names more : List (List ℕ)) → length names ≤ length (with_names names more)
is_longer names more = let onto = with_names_onto names more in omega (arith, ap length onto.1, length-append names onto.0)

-- there are n names already
pub full_all : (n : ℕ) (names more : List (List ℕ)) → length names ≡ n → names ≡ take n (with_names names more)
full_all n names more e =
    let onto = with_names_onto names more in
    sym (ap (take n) onto.1 ∙ take-append-le n names onto.0 (omega arith) ∙ take_all n names (omega arith))

-- ---- no name stands twice

pub record Apart (names : List (List ℕ)) : Type 0 where
  pub apart : (j k : ℕ) (a b : List ℕ) → j < k → slice_get names j ≡ Some a → slice_get names k ≡ Some b → a ≡ b → ⊥

first_false : (a b : Bool) → (a || b) ≡ false → a ≡ false
first_false true b e = e
first_false false b e = refl

second_false : (a b : Bool) → (a || b) ≡ false → b ≡ false
second_false true b e = absurd (true≢false e)
second_false false b e = e

any_false : {X : Type 0} (p : X → Bool) (xs : List X) (k : ℕ) (x : X) → list_any p xs ≡ false → slice_get xs k ≡ Some x → p x ≡ false
any_false {X = X} p [] k x h e = let bad : ◌≡◌ {A = Option X} None (Some x) = e in cc
any_false p (y ∷ xs) zero x h e = let same : y ≡ x = cc in subst (λ z. p z ≡ false) same (first_false (p y) (list_any p xs) h)
any_false p (y ∷ xs) (suc k) x h e = any_false p xs k x (second_false (p y) (list_any p xs) h) e

same_bytes : (a b : List ℕ) → a ≡ b → bytes_eq a b ≡ true
same_bytes a b e = (bytes_eq-Decides a b).1 e

apart_pushed : (names : List (List ℕ)) (name : List ℕ) → list_any (bytes_eq name) names ≡ false → Apart names → Apart (names ++ name ∷ [])
apart_pushed names name none h = record {
  apart = λ j k a b l p q same.
      let within : k < length (names ++ name ∷ []) = slice_get_within (names ++ name ∷ []) k b q in
      let some : k < length names + 1 = omega (arith, within, length-append names (name ∷ [])) in
      let at : slice_get names j ≡ Some a = sym (get_front names (name ∷ []) j (omega arith)) ∙ p in
      elim (cases_lt k (length names)) [
        | inl low ↦ h.apart j k a b l at (sym (get_front names (name ∷ []) k low) ∙ q) same
        | inr high ↦
            let end : k ≡ length names = omega arith in
            let last : ◌≡◌ {A = Option (List ℕ)} (Some name) (Some b) = sym (get_seam names name) ∙ ap (slice_get (names ++ name ∷ [])) (sym end) ∙ q in
            let is : name ≡ a = cc in
            true≢false (sym (same_bytes name a is) ∙ any_false (bytes_eq name) names j a none at)
      ];
}

apart_more : (names : List (List ℕ)) (name : List ℕ) → Apart names → Apart (with_name names name)
unfolding with_name
apart_more names name h =
    elim (list_any (bytes_eq name) names) as (λ t. list_any (bytes_eq name) names ≡ t → Apart (cond t names (names ++ name ∷ []))) [
      | true ↦ λ e. h
      | false ↦ λ e. apart_pushed names name e h
    ] refl

pub apart_all : (names more : List (List ℕ)) → Apart names → Apart (with_names names more)
apart_all names [] h = h
apart_all names (name ∷ more) h = apart_all (with_name names name) more (apart_more names name h)

pub none_apart : Apart []
none_apart = record { apart = λ j k a b l p q same. let bad : ◌≡◌ {A = Option (List ℕ)} None (Some a) = p in cc }

-- ---- texts that stand twice

has_itself : (name : List ℕ) (names : List (List ℕ)) → list_any (bytes_eq name) (with_name names name) ≡ true
unfolding with_name
has_itself name names =
    elim (list_any (bytes_eq name) names) as (λ t. list_any (bytes_eq name) names ≡ t → list_any (bytes_eq name) (cond t names (names ++ name ∷ [])) ≡ true) [
      | true ↦ λ e. e
      | false ↦ λ e.
          list_any-append (bytes_eq name) names (name ∷ [])
          ∙ ap (λ t. list_any (bytes_eq name) names || (t || false)) (same_bytes name name refl) ∙ or-true (list_any (bytes_eq name) names)
    ] refl

keeps : (p : List ℕ → Bool) (names more : List (List ℕ)) → list_any p names ≡ true → list_any p (with_names names more) ≡ true
keeps p names more h =
    let onto = with_names_onto names more in
    ap (list_any p) onto.1 ∙ list_any-append p names onto.0 ∙ ap (λ t. t || list_any p onto.0) h

split_or : (a b : Bool) → (a || b) ≡ true → (a ≡ true) ⊎ (b ≡ true)
split_or true b e = inl refl
split_or false b e = inr e

module _ (f : List ℕ → List ℕ) where
  mapped_has : (names seen : List (List ℕ)) (text : List ℕ) → list_any (bytes_eq text) seen ≡ true
      → list_any (bytes_eq (f text)) (with_names names (map f seen)) ≡ true
  mapped_has names [] text h = absurd (true≢false (sym h))
  mapped_has names (s ∷ seen) text h = elim (split_or (bytes_eq text s) (list_any (bytes_eq text) seen) h) [
    | inl here ↦
        let same : text ≡ s = (bytes_eq-Decides text s).0 here in
        keeps (bytes_eq (f text)) (with_name names (f s)) (map f seen)
        (ap (λ t. list_any (bytes_eq (f text)) (with_name names (f t))) (sym same) ∙ has_itself (f text) names)
    | inr later ↦ mapped_has (with_name names (f s)) seen text later
  ]

  is_there : (names : List (List ℕ)) (name : List ℕ) → list_any (bytes_eq name) names ≡ true → with_name names name ≡ names
  unfolding with_name
  is_there names name h = ap (λ t. cond t names (names ++ name ∷ [])) h

  joined : (names xs ys : List (List ℕ)) → with_names names (map f (xs ++ ys)) ≡ with_names (with_names names (map f xs)) (map f ys)
  joined names xs ys = ap (with_names names) (map-append f xs ys) ∙ fold-append with_name names (map f xs) (map f ys)

  -- texts that stand twice give no name more
  each_once : (names seen texts : List (List ℕ)) → with_names names (map f (with_names seen texts)) ≡ with_names names (map f (seen ++ texts))
  unfolding with_name
  each_once names seen [] = ap (λ t. with_names names (map f t)) (sym (append-nil seen))
  each_once names seen (text ∷ texts) =
      each_once names (with_name seen text) texts
      ∙ elim (list_any (bytes_eq text) seen) as (λ t. list_any (bytes_eq text) seen ≡ t → with_names names (map f (cond t seen (seen ++ text ∷ []) ++ texts)) ≡ with_names names (map f (seen ++ text ∷ texts))) [
        | true ↦ λ e.
            joined names seen texts
            ∙ ap (λ t. with_names t (map f texts)) (sym (is_there (with_names names (map f seen)) (f text) (mapped_has names seen text e)))
            ∙ sym (joined names seen (text ∷ texts))
        | false ↦ λ e. ap (λ t. with_names names (map f t)) (append_assoc seen (text ∷ []) texts)
      ] refl

  pub once_only : (names texts : List (List ℕ)) → with_names names (map f (with_names [] texts)) ≡ with_names names (map f texts)
  once_only names texts = each_once names [] texts
