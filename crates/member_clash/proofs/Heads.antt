-- The name that a use's text begins with.
use Rattle.std.proofs.Common.{◌≡◌, ℕ, Bool, true, false, cond, ◌&&◌, ◌||◌, ◌==◌, List, [], ◌∷◌, ◌++◌, ⊎_elim, length, refl, sym, ap, subst, ◌∙◌, true≢false}
use Rattle.std.specs.Prelude.{nat_le}
use Rattle.std.specs.List.{list_all, slice_split, onto_first}
use Rattle.std.proofs.lemmas.Bool.Decides.{eqb_tells}
use Rattle.wr_base.specs.Paths.{is_start, is_rest, is_identifier, parts_of, is_path}
use Rattle.wr_base.specs.declared.declaration.Declaration.{Declaration}
use Rattle.wr_rules.specs.Kinds.{meaning_of}
use Rattle.wr_rules.specs.Members.{names_within}
use Rattle.wr_rules.specs.ListRules.{head_of, names_at}

abbrev pub IsClean : List ℕ → Type 0
IsClean [] = Unit {0}
IsClean (b ∷ bs) = ((b == 60) ≡ false) × IsClean bs

abbrev AreClean : List (List ℕ) → Type 0
AreClean [] = Unit {0}
AreClean (p ∷ ps) = IsClean p × AreClean ps

both_true : (a b : Bool) → (a && b) ≡ true → (a ≡ true) × (b ≡ true)
both_true true b e = (refl, e)
both_true false b e = cc

or_right : (a b : Bool) → a ≡ true → (a || b) ≡ true
or_right true b e = refl
or_right false b e = cc

rest_clean : (b : ℕ) → is_rest b ≡ true → (b == 60) ≡ false
rest_clean b e = elim (b == 60) as (λ t. (b == 60) ≡ t → t ≡ false) [ true ↦ λ h. (let s : b ≡ 60 = ⊎_elim (λ t. t.1) (λ t. absurd (true≢false (sym h ∙ t.0))) (eqb_tells b 60) in let f : is_rest 60 ≡ true = subst (λ x. is_rest x ≡ true) s e in absurd (true≢false (sym f))) | false ↦ λ h. refl ] refl

rests_clean : (bs : List ℕ) → list_all is_rest bs ≡ true → IsClean bs
rests_clean [] e = tt
rests_clean (b ∷ bs) e = let p = both_true (is_rest b) (list_all is_rest bs) e in (rest_clean b p.0, rests_clean bs p.1)

identifier_clean : (bs : List ℕ) → is_identifier bs ≡ true → IsClean bs
identifier_clean [] e = cc
identifier_clean (b ∷ bs) e = let p = both_true (is_start b) (list_all is_rest bs) e in (rest_clean b (or_right (is_start b) (nat_le 48 b && nat_le b 57) p.0), rests_clean bs p.1)

parts_clean : (ps : List (List ℕ)) → list_all is_identifier ps ≡ true → AreClean ps
parts_clean [] e = tt
parts_clean (p ∷ ps) e = let q = both_true (is_identifier p) (list_all is_identifier ps) e in (identifier_clean p q.0, parts_clean ps q.1)

onto_clean : (b : ℕ) (ps : List (List ℕ)) → AreClean (onto_first b ps) → ((b == 60) ≡ false) × AreClean ps
onto_clean b [] h = (h.0.0, tt)
onto_clean b (p ∷ ps) h = (h.0.0, (h.0.1, h.1))

split_clean : (bs : List ℕ) → AreClean (slice_split (λ b. b == 46) bs) → IsClean bs
split_clean [] h = tt
split_clean (b ∷ bs) h = elim (b == 46) as (λ t. (b == 46) ≡ t → AreClean (cond t ([] ∷ slice_split (λ c. c == 46) bs) (onto_first b (slice_split (λ c. c == 46) bs))) → IsClean (b ∷ bs)) [
  | true ↦ λ e k. (let s : b ≡ 46 = ⊎_elim (λ t. t.1) (λ t. absurd (true≢false (sym e ∙ t.0))) (eqb_tells b 46) in (ap (λ x. x == 60) s, split_clean bs k.1))
  | false ↦ λ e k. (let p = onto_clean b (slice_split (λ c. c == 46) bs) k in (p.0, split_clean bs p.1))
] refl h

pub path_clean : (name : List ℕ) → is_path name ≡ true → IsClean name
path_clean name e = let p = both_true (nat_le 2 (length (parts_of name))) (list_all is_identifier (parts_of name)) e in split_clean name (parts_clean (parts_of name) p.1)

head_whole : (name : List ℕ) → IsClean name → head_of name ≡ name
head_whole [] h = refl
head_whole (b ∷ bs) h = ap (λ t. cond t [] (b ∷ head_of bs)) h.0 ∙ ap (λ l. b ∷ l) (head_whole bs h.1)

head_before : (name rest : List ℕ) → IsClean name → head_of (name ++ 60 ∷ rest) ≡ name
head_before [] rest h = refl
head_before (b ∷ bs) rest h = ap (λ t. cond t [] (b ∷ head_of (bs ++ 60 ∷ rest))) h.0 ∙ ap (λ l. b ∷ l) (head_before bs rest h.1)

module _ (types : List Declaration) (name : List ℕ) (path : is_path name ≡ true) where
  from_head : (text : List ℕ) → head_of text ≡ name → names_at types text ≡ names_within (meaning_of types name)
  from_head text e = ap (λ (h : List ℕ). cond (is_path h) (names_within (meaning_of types h)) []) e ∙ ap (λ t. cond t (names_within (meaning_of types name)) []) path

  pub of_name : names_at types name ≡ names_within (meaning_of types name)
  of_name = from_head name (head_whole name (path_clean name path))

  pub of_instance : (rest : List ℕ) → names_at types (name ++ 60 ∷ rest) ≡ names_within (meaning_of types name)
  of_instance rest = from_head (name ++ 60 ∷ rest) (head_before name rest (path_clean name path))
