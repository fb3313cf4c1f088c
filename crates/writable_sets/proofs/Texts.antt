-- Uses of one text are one use, where each name means something and has its kind.
use Rattle.std.proofs.Common.{◌≡◌, ◌==◌, ℕ, ◌<◌, Bool, true, false, not, ◌&&◌, ◌||◌, List, [], ◌∷◌, ◌++◌, drop, get_or, refl, sym, ap, ◌∙◌, arith, append_assoc, true≢false, inl, inr}
use Rattle.std.specs.Prelude.{⊤, nat_le, length}
use Rattle.std.specs.List.{All, AllByRecursion, list_all, slice_split, onto_first, join_with_byte}
use Rattle.std.proofs.lemmas.Option.{same_Some}
use Rattle.std.proofs.lemmas.List.Elements.{All-head, All-tail}
use Rattle.winmd_sets.specs.Fits.{IsName}
use Rattle.wr_base.proofs.PartLaws.{either}
use Rattle.wr_base.proofs.WordLaws.{base_of_word-word_of}
use Rattle.wr_base.specs.Paths.{is_start, is_rest, is_identifier, parts_of, is_path}
use Rattle.wr_base.specs.Trees.{UseTree, plain, value, reference, instance, UseTrees, no_uses, use_and, list_of, count_of, within, among, text_of_tree, texts_of_trees}
use Rattle.wr_base.specs.Uses.{word_of}
use Rattle.wr_base.specs.Words.{base_of_word}
use Rattle.wr_base.specs.declared.declaration.Declaration.{Declaration}
use Rattle.wr_base.specs.declared.type_use.Base.{Base}
use Rattle.wr_base.specs.declared.type_use.Base.TheVariants.{Boolean, Char, U8, I16, U16, I32, U32, I64, U64, Text, Guid, Object}
use Rattle.wr_rules.specs.Accepted.{has_arguments, have_arguments}
use Rattle.wr_rules.specs.Kinds.{kind_used}
use Rattle.wr_rules.specs.UseRules.{has_kind, is_value, unresolved, wrong_kind}
use Rattle.writable_sets.proofs.UseFits.{OwnName, split_all, and_parts, named_fits}

-- ---- the bytes of names

-- what may stand in a name or a word
abbrev in_name : ℕ → Bool
in_name b = is_rest b || b == 46

rest_in : (b : ℕ) → is_rest b ≡ true → in_name b ≡ true
rest_in b h = ap (λ t. t || b == 46) h

rests_in : (bs : List ℕ) → list_all is_rest bs ≡ true → list_all in_name bs ≡ true
rests_in [] h = refl
rests_in (b ∷ bs) h = let s = and_parts (is_rest b) (list_all is_rest bs) h in ap (λ t. t && list_all in_name bs) (rest_in b s.0) ∙ rests_in bs s.1

start_in : (b : ℕ) → is_start b ≡ true → is_rest b ≡ true
start_in b h = rw h refl

identifier_in : (bs : List ℕ) → is_identifier bs ≡ true → list_all in_name bs ≡ true
identifier_in [] h = refl
identifier_in (b ∷ bs) h = let s = and_parts (is_start b) (list_all is_rest bs) h in ap (λ t. t && list_all in_name bs) (rest_in b (start_in b s.0)) ∙ rests_in bs s.1

abbrev AreIn : List (List ℕ) → Type 0
AreIn parts = AllByRecursion (λ part. list_all in_name part ≡ true) parts

identifiers_in : (parts : List (List ℕ)) → list_all is_identifier parts ≡ true → AreIn parts
identifiers_in [] h = tt
identifiers_in (part ∷ parts) h = let s = and_parts (is_identifier part) (list_all is_identifier parts) h in (identifier_in part s.0, identifiers_in parts s.1)

onto_in : (b : ℕ) (parts : List (List ℕ)) → AreIn (onto_first b parts) → (in_name b ≡ true) × AreIn parts
onto_in b [] h = (let s = and_parts (in_name b) true h.0 in s.0, tt)
onto_in b (part ∷ parts) h = let s = and_parts (in_name b) (list_all in_name part) h.0 in (s.0, (s.1, h.1))

or_right : (x y : Bool) → y ≡ true → (x || y) ≡ true
or_right true y h = refl
or_right false y h = h

split_in : (bs : List ℕ) → AreIn (slice_split (λ b. b == 46) bs) → list_all in_name bs ≡ true
split_in [] h = refl
split_in (b ∷ bs) h = elim (either (b == 46)) [
  | inl e ↦ (let parts = rw e at h in let dot : in_name b ≡ true = or_right (is_rest b) (b == 46) e in rw (dot, split_in bs parts.1) refl)
  | inr e ↦ (let parts = rw e at h in let s = onto_in b (slice_split (λ c. c == 46) bs) parts in rw (s.0, split_in bs s.1) refl)
]

path_in : (name : List ℕ) → is_path name ≡ true → list_all in_name name ≡ true
path_in name h = let s = and_parts (nat_le 2 (length (parts_of name))) (list_all is_identifier (parts_of name)) h in split_in name (identifiers_in (parts_of name) s.1)

word_in : (base : Base) → list_all in_name (word_of base) ≡ true
word_in Boolean = refl
word_in Char = refl
word_in U8 = refl
word_in I16 = refl
word_in U16 = refl
word_in I32 = refl
word_in U32 = refl
word_in I64 = refl
word_in U64 = refl
word_in Text = refl
word_in Guid = refl
word_in Object = refl

no_path : (base : Base) → is_path (word_of base) ≡ false
no_path Boolean = refl
no_path Char = refl
no_path U8 = refl
no_path I16 = refl
no_path U16 = refl
no_path I32 = refl
no_path U32 = refl
no_path I64 = refl
no_path U64 = refl
no_path Text = refl
no_path Guid = refl
no_path Object = refl

-- ---- names in front of what can't go on with them

abbrev Stops : List ℕ → Type 0
Stops [] = ⊤
Stops (b ∷ bs) = in_name b ≡ false

heads : (x y : ℕ) (xs ys : List ℕ) → x ∷ xs ≡ y ∷ ys → x ≡ y
heads x y xs ys e = ap (λ (zs : List ℕ). get_or zs 0 0) e

tails : (x y : ℕ) (xs ys : List ℕ) → x ∷ xs ≡ y ∷ ys → xs ≡ ys
tails x y xs ys e = ap (λ (zs : List ℕ). drop 1 zs) e

no_front : (y : ℕ) (ys r s : List ℕ) → in_name y ≡ true → Stops r → r ≡ y ∷ (ys ++ s) → ⊥
no_front y ys [] s h stop e = absurd cc
no_front y ys (c ∷ r) s h stop e = true≢false (sym h ∙ sym (ap in_name (heads c y r (ys ++ s) e)) ∙ stop)

apart : (a b r s : List ℕ) → list_all in_name a ≡ true → list_all in_name b ≡ true → Stops r → Stops s → a ++ r ≡ b ++ s → (a ≡ b) × (r ≡ s)
apart [] [] r s f g p q e = (refl, e)
apart [] (y ∷ ys) r s f g p q e = absurd (no_front y ys r s (and_parts (in_name y) (list_all in_name ys) g).0 p e)
apart (x ∷ xs) [] r s f g p q e = absurd (no_front x xs s r (and_parts (in_name x) (list_all in_name xs) f).0 q (sym e))
apart (x ∷ xs) (y ∷ ys) r s f g p q e =
    let rest = apart xs ys r s (and_parts (in_name x) (list_all in_name xs) f).1 (and_parts (in_name y) (list_all in_name ys) g).1 p q (tails x y (xs ++ r) (ys ++ s) e) in
    (ap (λ z. z ∷ xs) (heads x y (xs ++ r) (ys ++ s) e) ∙ ap (λ (zs : List ℕ). y ∷ zs) rest.0, rest.1)

-- ---- the text of a use: its name, and what stands behind that

abbrev head : UseTree → List ℕ
head (plain base) = word_of base
head (value name) = name
head (reference name) = name
head (instance name arguments) = name

abbrev joined : UseTrees → List ℕ
joined us = join_with_byte 44 (texts_of_trees us)

abbrev behind : UseTree → List ℕ → List ℕ
behind (plain base) r = r
behind (value name) r = r
behind (reference name) r = r
behind (instance name arguments) r = 60 ∷ (joined arguments ++ 62 ∷ r)

whole : (u : UseTree) (r : List ℕ) → text_of_tree u ++ r ≡ head u ++ behind u r
whole (plain base) r = refl
whole (value name) r = refl
whole (reference name) r = refl
whole (instance name arguments) r = append_assoc (name ++ 60 ∷ joined arguments) (62 ∷ []) r ∙ append_assoc name (60 ∷ joined arguments) (62 ∷ r)

-- what may stand behind a use
abbrev Ends : List ℕ → Type 0
Ends [] = ⊤
Ends (b ∷ bs) = (in_name b ≡ false) × ((b == 60) ≡ false)

stops : (r : List ℕ) → Ends r → Stops r
stops [] h = tt
stops (b ∷ r) h = h.0

behind_stops : (u : UseTree) (r : List ℕ) → Ends r → Stops (behind u r)
behind_stops (plain base) r h = stops r h
behind_stops (value name) r h = stops r h
behind_stops (reference name) r h = stops r h
behind_stops (instance name arguments) r h = refl

no_instance : (r rest : List ℕ) → Ends r → r ≡ 60 ∷ rest → ⊥
no_instance [] rest h e = absurd cc
no_instance (b ∷ r) rest h e = true≢false (ap (λ z. z == 60) (sym (heads b 60 r rest e)) ∙ h.1)

some_count : (a : List ℕ) (us : UseTrees) → has_arguments (instance a us) ≡ true → 0 < count_of us
some_count a no_uses h = absurd (true≢false (sym h))
some_count a (use_and u us) h = omega arith

arguments_have : (a : List ℕ) (us : UseTrees) → has_arguments (instance a us) ≡ true → have_arguments us ≡ true
arguments_have a no_uses h = refl
arguments_have a (use_and u us) h = h

module _ (types : List Declaration) (own : All OwnName types) where
  -- a named type means something, and is of its kind
  abbrev pub IsMeantAs : UseTree → Type 0
  IsMeantAs v = (unresolved types v ≡ false) × (wrong_kind types v ≡ false)

  base_path : (base : Base) (name : List ℕ) → IsName name → word_of base ≡ name → ⊥
  base_path base name h e = true≢false (sym h.path ∙ sym (ap is_path e) ∙ no_path base)

  name_in : (name : List ℕ) → IsName name → list_all in_name name ≡ true
  name_in name h = path_in name h.path

  value_name : (name : List ℕ) → IsMeantAs (value name) → IsName name
  value_name name h = (named_fits types name 0 own h.0).0

  reference_name : (name : List ℕ) → IsMeantAs (reference name) → IsName name
  reference_name name h = (named_fits types name 0 own h.0).0

  instance_name : (name : List ℕ) (us : UseTrees) → IsMeantAs (instance name us) → IsName name
  instance_name name us h = (named_fits types name (length (list_of us)) own h.0).0

  head_in : (u : UseTree) → All IsMeantAs (within u) → list_all in_name (head u) ≡ true
  head_in (plain base) h = word_in base
  head_in (value name) h = name_in name (value_name name (All-head IsMeantAs (value name) [] h))
  head_in (reference name) h = name_in name (reference_name name (All-head IsMeantAs (reference name) [] h))
  head_in (instance name us) h = name_in name (instance_name name us (All-head IsMeantAs (instance name us) (among us) h))

  -- one name is no value and no reference at once
  two_kinds : (a b : List ℕ) → a ≡ b → IsMeantAs (value a) → IsMeantAs (reference b) → ⊥
  two_kinds a b e h g =
      let kind : has_kind is_value (kind_used types (value b)) ≡ false = g.1 in
      true≢false (sym (ap not (ap (λ n. has_kind is_value (kind_used types (value n))) e ∙ kind)) ∙ h.1)

  same_word : (a b : Base) → word_of a ≡ word_of b → a ≡ b
  same_word a b e = same_Some a b (sym (base_of_word-word_of a) ∙ ap base_of_word e ∙ base_of_word-word_of b)

  cut : (u v : UseTree) (r s : List ℕ) → All IsMeantAs (within u) → All IsMeantAs (within v) → Ends r → Ends s → text_of_tree u ++ r ≡ text_of_tree v ++ s → (head u ≡ head v) × (behind u r ≡ behind v s)
  cut u v r s f g p q e = apart (head u) (head v) (behind u r) (behind v s) (head_in u f) (head_in v g) (behind_stops u r p) (behind_stops v s q) (sym (whole u r) ∙ e ∙ whole v s)

  mutual
    same_parts : (u v : UseTree) (r s : List ℕ) → All IsMeantAs (within u) → All IsMeantAs (within v) → has_arguments u ≡ true → has_arguments v ≡ true → Ends r → Ends s → head u ≡ head v → behind u r ≡ behind v s → (u ≡ v) × (r ≡ s)
    same_parts (plain a) (plain b) r s f g x y p q h t = (ap plain (same_word a b h), t)
    same_parts (plain a) (value b) r s f g x y p q h t = absurd (base_path a b (value_name b (All-head IsMeantAs (value b) [] g)) h)
    same_parts (plain a) (reference b) r s f g x y p q h t = absurd (base_path a b (reference_name b (All-head IsMeantAs (reference b) [] g)) h)
    same_parts (plain a) (instance b vs) r s f g x y p q h t = absurd (base_path a b (instance_name b vs (All-head IsMeantAs (instance b vs) (among vs) g)) h)
    same_parts (value a) (plain b) r s f g x y p q h t = absurd (base_path b a (value_name a (All-head IsMeantAs (value a) [] f)) (sym h))
    same_parts (value a) (value b) r s f g x y p q h t = (ap value h, t)
    same_parts (value a) (reference b) r s f g x y p q h t = absurd (two_kinds a b h (All-head IsMeantAs (value a) [] f) (All-head IsMeantAs (reference b) [] g))
    same_parts (value a) (instance b vs) r s f g x y p q h t = absurd (no_instance r (joined vs ++ 62 ∷ s) p t)
    same_parts (reference a) (plain b) r s f g x y p q h t = absurd (base_path b a (reference_name a (All-head IsMeantAs (reference a) [] f)) (sym h))
    same_parts (reference a) (value b) r s f g x y p q h t = absurd (two_kinds b a (sym h) (All-head IsMeantAs (value b) [] g) (All-head IsMeantAs (reference a) [] f))
    same_parts (reference a) (reference b) r s f g x y p q h t = (ap reference h, t)
    same_parts (reference a) (instance b vs) r s f g x y p q h t = absurd (no_instance r (joined vs ++ 62 ∷ s) p t)
    same_parts (instance a us) (plain b) r s f g x y p q h t = absurd (base_path b a (instance_name a us (All-head IsMeantAs (instance a us) (among us) f)) (sym h))
    same_parts (instance a us) (value b) r s f g x y p q h t = absurd (no_instance s (joined us ++ 62 ∷ r) q (sym t))
    same_parts (instance a us) (reference b) r s f g x y p q h t = absurd (no_instance s (joined us ++ 62 ∷ r) q (sym t))
    same_parts (instance a us) (instance b vs) r s f g x y p q h t =
        let rest = same_lists us vs r s (some_count a us x) (some_count b vs y) (All-tail IsMeantAs (instance a us) (among us) f) (All-tail IsMeantAs (instance b vs) (among vs) g) (arguments_have a us x) (arguments_have b vs y)
        (tails 60 60 (joined us ++ 62 ∷ r) (joined vs ++ 62 ∷ s) t) in
        (ap (λ n. instance n us) h ∙ ap (instance b) rest.0, rest.1)

    same_lists : (us vs : UseTrees) (r s : List ℕ) → 0 < count_of us → 0 < count_of vs → All IsMeantAs (among us) → All IsMeantAs (among vs) → have_arguments us ≡ true → have_arguments vs ≡ true → joined us ++ 62 ∷ r ≡ joined vs ++ 62 ∷ s → (us ≡ vs) × (r ≡ s)
    same_lists no_uses vs r s m n f g x y e = absurd (omega (arith, m))
    same_lists (use_and u us) no_uses r s m n f g x y e = absurd (omega (arith, n))
    same_lists (use_and u no_uses) (use_and v no_uses) r s m n f g x y e =
        let one = (let both = cut u v (62 ∷ r) (62 ∷ s) (split_all IsMeantAs (within u) [] f).0 (split_all IsMeantAs (within v) [] g).0 (refl, refl) (refl, refl) e in same_parts u v (62 ∷ r) (62 ∷ s) (split_all IsMeantAs (within u) [] f).0 (split_all IsMeantAs (within v) [] g).0 (and_parts (has_arguments u) true x).0 (and_parts (has_arguments v) true y).0 (refl, refl) (refl, refl) both.0 both.1) in
        (ap (λ z. use_and z no_uses) one.0, tails 62 62 r s one.1)
    same_lists (use_and u no_uses) (use_and v (use_and w vs)) r s m n f g x y e =
        let one = (let both = cut u v (62 ∷ r) (44 ∷ (joined (use_and w vs) ++ 62 ∷ s)) (split_all IsMeantAs (within u) [] f).0 (split_all IsMeantAs (within v) (among (use_and w vs)) g).0 (refl, refl) (refl, refl) (e ∙ append_assoc (text_of_tree v) (44 ∷ joined (use_and w vs)) (62 ∷ s)) in same_parts u v (62 ∷ r) (44 ∷ (joined (use_and w vs) ++ 62 ∷ s)) (split_all IsMeantAs (within u) [] f).0 (split_all IsMeantAs (within v) (among (use_and w vs)) g).0 (and_parts (has_arguments u) true x).0 (and_parts (has_arguments v) (have_arguments (use_and w vs)) y).0 (refl, refl) (refl, refl) both.0 both.1) in
        absurd (omega (arith, heads 62 44 r (joined (use_and w vs) ++ 62 ∷ s) one.1))
    same_lists (use_and u (use_and w us)) (use_and v no_uses) r s m n f g x y e =
        let one = (let both = cut u v (44 ∷ (joined (use_and w us) ++ 62 ∷ r)) (62 ∷ s) (split_all IsMeantAs (within u) (among (use_and w us)) f).0 (split_all IsMeantAs (within v) [] g).0 (refl, refl) (refl, refl) (sym (append_assoc (text_of_tree u) (44 ∷ joined (use_and w us)) (62 ∷ r)) ∙ e) in same_parts u v (44 ∷ (joined (use_and w us) ++ 62 ∷ r)) (62 ∷ s) (split_all IsMeantAs (within u) (among (use_and w us)) f).0 (split_all IsMeantAs (within v) [] g).0 (and_parts (has_arguments u) (have_arguments (use_and w us)) x).0 (and_parts (has_arguments v) true y).0 (refl, refl) (refl, refl) both.0 both.1) in
        absurd (omega (arith, heads 44 62 (joined (use_and w us) ++ 62 ∷ r) s one.1))
    same_lists (use_and u (use_and w us)) (use_and v (use_and z vs)) r s m n f g x y e =
        let one = (let both = cut u v (44 ∷ (joined (use_and w us) ++ 62 ∷ r)) (44 ∷ (joined (use_and z vs) ++ 62 ∷ s)) (split_all IsMeantAs (within u) (among (use_and w us)) f).0 (split_all IsMeantAs (within v) (among (use_and z vs)) g).0 (refl, refl) (refl, refl) (sym (append_assoc (text_of_tree u) (44 ∷ joined (use_and w us)) (62 ∷ r)) ∙ e ∙ append_assoc (text_of_tree v) (44 ∷ joined (use_and z vs)) (62 ∷ s)) in same_parts u v (44 ∷ (joined (use_and w us) ++ 62 ∷ r)) (44 ∷ (joined (use_and z vs) ++ 62 ∷ s)) (split_all IsMeantAs (within u) (among (use_and w us)) f).0 (split_all IsMeantAs (within v) (among (use_and z vs)) g).0 (and_parts (has_arguments u) (have_arguments (use_and w us)) x).0 (and_parts (has_arguments v) (have_arguments (use_and z vs)) y).0 (refl, refl) (refl, refl) both.0 both.1) in
        let rest = same_lists (use_and w us) (use_and z vs) r s (omega arith) (omega arith) (split_all IsMeantAs (within u) (among (use_and w us)) f).1 (split_all IsMeantAs (within v) (among (use_and z vs)) g).1
        (and_parts (has_arguments u) (have_arguments (use_and w us)) x).1 (and_parts (has_arguments v) (have_arguments (use_and z vs)) y).1
        (tails 44 44 (joined (use_and w us) ++ 62 ∷ r) (joined (use_and z vs) ++ 62 ∷ s) one.1) in
        (ap (λ t. use_and t (use_and w us)) one.0 ∙ ap (use_and v) rest.0, rest.1)

  -- uses of one text are one use
  pub one_use : (u v : UseTree) → All IsMeantAs (within u) → All IsMeantAs (within v) → has_arguments u ≡ true → has_arguments v ≡ true → text_of_tree u ≡ text_of_tree v → u ≡ v
  one_use u v f g x y e =
      let both = cut u v [] [] f g tt tt (ap (λ (t : List ℕ). t ++ []) e) in
      (same_parts u v [] [] f g x y tt tt both.0 both.1).0
