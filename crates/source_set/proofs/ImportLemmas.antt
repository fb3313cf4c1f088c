-- The texts of imports, and their names behind those that are known.
use Rattle.std.proofs.Common.{◌≡◌, ℕ, zero, suc, ◌+◌, ◌<◌, ◌≤◌, false, cond, List, [], ◌∷◌, ◌++◌, length, take, map, get_or, Option, Some, None, slice_get, refl, sym, ap, ◌∙◌, append-nil, arith}
use Rattle.std.proofs.lemmas.List.{take_all, take_more, map-append}
use Rattle.std.proofs.lemmas.List.Sums.{fold-append}
use Rattle.std.proofs.lemmas.Grind.{flat_map-append}
use Rattle.std.proofs.lemmas.Option.{slice_get_within, get_or_from_slice_get}
use Rattle.std.specs.List.{flat_map}
use Rattle.midl_tree.specs.Symbols.{Symbol}
use Rattle.source_set.specs.Found.{with_name, with_names, first_names}
use Rattle.source_set.specs.Imports.{unquoted, adds_file, text_of}
use Rattle.source_set.proofs.NameLemmas.{first_joined, once_only}

pub no_text : (texts : List (List ℕ)) (t : Symbol) → adds_file (unquoted t.text) ≡ false → texts ≡ with_names texts (text_of t)
no_text texts t e = ap (λ b. with_names texts (cond b (unquoted t.text ∷ []) [])) (sym e)

module _ {X : Type 0} (f : X → List (List ℕ)) where
  taken_more : (xs : List X) (i : ℕ) (x : X) → i < length xs → x ≡ get_or xs i x → flat_map f (take i xs) ++ f x ≡ flat_map f (take (i + 1) xs)
  taken_more xs i x l is =
      sym (ap (flat_map f) (take_more xs i x l ∙ ap (λ y. take i xs ++ y ∷ []) (sym is)) ∙ flat_map-append f (take i xs) (x ∷ [])
      ∙ ap (λ t. flat_map f (take i xs) ++ t) (append-nil (f x)))

  -- one import more, or one group
  pub texts_more : (first old new : List (List ℕ)) (xs : List X) (i : ℕ) (x : X) → i < length xs → x ≡ get_or xs i x
      → old ≡ with_names first (flat_map f (take i xs)) → new ≡ with_names old (f x) → new ≡ with_names first (flat_map f (take (i + 1) xs))
  texts_more first old new xs i x l is before more =
      more ∙ ap (λ t. with_names t (f x)) before ∙ sym (fold-append with_name first (flat_map f (take i xs)) (f x))
      ∙ ap (with_names first) (taken_more xs i x l is)

  pub texts_done : (first new : List (List ℕ)) (xs : List X) (i : ℕ) → length xs ≤ i → new ≡ with_names first (flat_map f (take i xs))
      → new ≡ with_names first (flat_map f xs)
  texts_done first new xs i le e = e ∙ ap (λ t. with_names first (flat_map f t)) (take_all i xs le)

pub flat_map-map : {X Y A : Type 0} (g : Y → List A) (h : X → Y) (xs : List X) → flat_map g (map h xs) ≡ flat_map (λ x. g (h x)) xs
flat_map-map g h [] = refl
flat_map-map g h (x ∷ xs) = ap (λ t. g (h x) ++ t) (flat_map-map g h xs)

-- ---- names, text by text

module _ (f : List ℕ → List ℕ) where
  pub none_named : (names : List (List ℕ)) (texts : List (List ℕ)) → length names ≤ 257 → names ≡ first_names (with_names names (map f (take 0 texts)))
  none_named names texts few = sym (take_all 257 names few)

  pub named_more : (first old new texts : List (List ℕ)) (i : ℕ) (text : List ℕ) → slice_get texts i ≡ Some text
      → old ≡ first_names (with_names first (map f (take i texts))) → new ≡ first_names (with_name old (f text))
      → new ≡ first_names (with_names first (map f (take (i + 1) texts)))
  named_more first old new texts i text at before more =
      let cut : take (i + 1) texts ≡ take i texts ++ text ∷ [] =
      take_more texts i [] (slice_get_within texts i text at) ∙ ap (λ t. take i texts ++ t ∷ []) (get_or_from_slice_get texts i text [] at) in
      more ∙ ap (λ t. first_names (with_name t (f text))) before ∙ first_joined 257 first (map f (take i texts)) (f text ∷ [])
      ∙ ap (λ t. first_names (with_names first t)) (sym (ap (map f) cut ∙ map-append f (take i texts) (text ∷ [])))

  pub all_named : (first new texts : List (List ℕ)) (i : ℕ) → length texts ≤ i → new ≡ first_names (with_names first (map f (take i texts)))
      → new ≡ first_names (with_names first (map f texts))
  all_named first new texts i past e = e ∙ ap (λ t. first_names (with_names first (map f t))) (take_all i texts past)

  -- texts that stand twice
  pub each_named : (first new texts distinct : List (List ℕ)) → distinct ≡ with_names [] texts → new ≡ first_names (with_names first (map f distinct))
      → new ≡ first_names (with_names first (map f texts))
  each_named first new texts distinct is e = e ∙ ap (λ t. first_names (with_names first (map f t))) is ∙ ap first_names (once_only f first texts)

pub absent : {X : Type 0} (xs : List X) (k : ℕ) → k < length xs → ◌≡◌ {A = Option X} None (slice_get xs k) → ⊥
absent [] k l e = absurd (omega arith)
absent {X = X} (x ∷ xs) zero l e = let bad : ◌≡◌ {A = Option X} None (Some x) = e in cc
absent (x ∷ xs) (suc k) l e = absent xs k (omega arith) e
