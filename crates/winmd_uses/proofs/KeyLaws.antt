-- Uses of one key are one use.
use Rattle.std.proofs.Common.{◌≡◌, ℕ, ◌+◌, ◌<◌, ◌≤◌, Bool, true, false, List, [], ◌∷◌, ◌++◌, map, take, get_or, length, refl, sym, ap, ◌∙◌, append_assoc, append-nil, inl, inr}
use Rattle.std.specs.Prelude.{◌||◌, Vec}
use Rattle.std.specs.List.{list_any, flat_map}
use Rattle.std.specs.Str.{bytes_eq}
use Rattle.std.specs.Cmp.Lexicographic.{bytes_decides}
use Rattle.std.specs.HashSet.{Updates}
use Rattle.std.specs.Map.{AreApart, IsKeyTest}
use Rattle.std.specs.Set.{KeepsOthers}
use Rattle.std.specs.declared.alloc.Global.{Global}
use Rattle.std.proofs.lemmas.List.Folds.{list_any-append}
use Rattle.std.proofs.lemmas.Bool.{eq-eqb}
use Rattle.std.proofs.lemmas.List.{take_more, take_all}
use Rattle.std.proofs.lemmas.List.Concat.{flat_map-append}
use Rattle.wr_base.specs.declared.type_use.TypeUse.{TypeUse}
use Rattle.wr_base.specs.declared.type_use.TypeUse.TheViews.{Inst}
use Rattle.wr_base.specs.declared.type_use.Base.{Base}
use Rattle.wr_base.specs.Trees.{UseTree, plain, value, reference, instance, UseTrees, no_uses, use_and, base_number, same_use, tree_of, uses_of}
use Rattle.wr_base.proofs.TreeLaws.{same_use-is, same_use-refl, tree_Inst}
use Rattle.winmd_uses.specs.Keys.{marked, key_of, keys_of}
use Rattle.winmd_uses.specs.Known.{Hashed, key_eq}
use Rattle.winmd_uses.specs.Instances.{Adds, all_of, has_bytes, has_key}
use Rattle.winmd_uses.specs.declared.instances.Instances.{Instances}
use Rattle.winmd_uses.proofs.TakeLaws.{either}

-- ---- a key tells its use, whatever stands behind it

marked-tells : (a b r s : List ℕ) → marked a ++ r ≡ marked b ++ s → (a ≡ b) × (r ≡ s)
marked-tells [] [] r s e = (refl, cc)
marked-tells [] (c ∷ cs) r s e = absurd cc
marked-tells (b ∷ bs) [] r s e = absurd cc
marked-tells (b ∷ bs) (c ∷ cs) r s e =
    let head : b ≡ c = cc in
    let rest : marked bs ++ r ≡ marked cs ++ s = cc in
    let both = marked-tells bs cs r s rest in
    (ap (λ (n : ℕ). n ∷ bs) head ∙ ap (λ (l : List ℕ). c ∷ l) both.0, both.1)

same_base : (a b : Base) → base_number a ≡ base_number b → plain a ≡ plain b
same_base a b e = same_use-is (plain a) (plain b) (eq-eqb (base_number a) (base_number b) e)

-- the key of a use doesn't begin with 0
no_zero : (v : UseTree) (t r s : List ℕ) → 0 ∷ r ≡ (key_of v ++ t) ++ s → ⊥
no_zero (plain b) t r s e = cc
no_zero (value n) t r s e = cc
no_zero (reference n) t r s e = cc
no_zero (instance n us) t r s e = cc

mutual
  key-tells : (u v : UseTree) (r s : List ℕ) → key_of u ++ r ≡ key_of v ++ s → (u ≡ v) × (r ≡ s)
  key-tells (plain a) (plain b) r s e =
      let same : base_number a ≡ base_number b = cc in
      (same_base a b same, cc)
  key-tells (value a) (value b) r s e =
      let rest : marked a ++ r ≡ marked b ++ s = cc in
      let both = marked-tells a b r s rest in
      (ap value both.0, both.1)
  key-tells (reference a) (reference b) r s e =
      let rest : marked a ++ r ≡ marked b ++ s = cc in
      let both = marked-tells a b r s rest in
      (ap reference both.0, both.1)
  key-tells (instance a us) (instance b vs) r s e =
      let rest : (marked a ++ keys_of us) ++ r ≡ (marked b ++ keys_of vs) ++ s = cc in
      let both = marked-tells a b (keys_of us ++ r) (keys_of vs ++ s) (sym (append_assoc (marked a) (keys_of us) r) ∙ rest ∙ append_assoc (marked b) (keys_of vs) s) in
      let more = keys-tell us vs r s both.1 in
      (ap (λ (x : List ℕ). instance x us) both.0 ∙ ap (instance b) more.0, more.1)
  key-tells u v r s e = absurd cc

  keys-tell : (us vs : UseTrees) (r s : List ℕ) → keys_of us ++ r ≡ keys_of vs ++ s → (us ≡ vs) × (r ≡ s)
  keys-tell no_uses no_uses r s e = (refl, cc)
  keys-tell no_uses (use_and v vs) r s e = absurd (no_zero v (keys_of vs) r s e)
  keys-tell (use_and u us) no_uses r s e = absurd (no_zero u (keys_of us) s r (sym e))
  keys-tell (use_and u us) (use_and v vs) r s e =
      let one = key-tells u v (keys_of us ++ r) (keys_of vs ++ s) (sym (append_assoc (key_of u) (keys_of us) r) ∙ e ∙ append_assoc (key_of v) (keys_of vs) s) in
      let more = keys-tell us vs r s one.1 in
      (ap (λ (x : UseTree). use_and x us) one.0 ∙ ap (use_and v) more.0, more.1)

key-injective : (u v : UseTree) → key_of u ≡ key_of v → u ≡ v
key-injective u v e = (key-tells u v [] [] (ap (λ (k : List ℕ). k ++ []) e)).0

-- keys are one exactly where uses are
pub key_same : (u v : UseTree) → bytes_eq (key_of u) (key_of v) ≡ same_use u v
key_same u v =
    elim (either (same_use u v)) [
      | inl e ↦ (bytes_decides (key_of u) (key_of v)).1 (ap key_of (same_use-is u v e)) ∙ sym e
      | inr e ↦ elim (either (bytes_eq (key_of u) (key_of v))) [
        | inl g ↦ absurd (let is : u ≡ v = key-injective u v ((bytes_decides (key_of u) (key_of v)).0 g) in let t : same_use u v ≡ true = ap (same_use u) (sym is) ∙ same_use-refl u in cc)
        | inr g ↦ g ∙ sym e
      ]
    ]

-- ---- a set of keys

abbrev Key : Type 0
Key = Vec ℕ Global

or_false : (b : Bool) → (b || false) ≡ b
or_false true = refl
or_false false = refl

or_true : (b : Bool) → (b || true) ≡ true
or_true true = refl
or_true false = refl

-- the keys but the one that is put are there as before
other_keys : (k : Key) (old new : List Key) → KeepsOthers key_eq (key_eq k) old new → (other : Key → Bool) → IsKeyTest key_eq other → AreApart (key_eq k) other → list_any other new ≡ list_any other old
unfolding KeepsOthers
other_keys k old new h = h

pub any_put : (bs : List ℕ) (k : Key) (s n : Hashed Key) → Updates key_eq s n k true → has_bytes n bs ≡ (has_bytes s bs || bytes_eq bs k.items)
any_put bs k s n u =
    elim (either (bytes_eq bs k.items)) [
      | inl t ↦ ap (has_bytes n) ((bytes_decides bs k.items).0 t) ∙ u.1 ∙ sym (ap (λ (b : Bool). has_bytes s bs || b) t ∙ or_true (has_bytes s bs))
      | inr t ↦
          other_keys k s.keys n.keys u.3 (λ x. bytes_eq bs x.items) (λ x y e. ap (λ (w : List ℕ). bytes_eq w y.items) ((bytes_decides bs x.items).0 e))
          (λ x e. ap (bytes_eq bs) (sym ((bytes_decides k.items x.items).0 e)) ∙ t)
          ∙ sym (ap (λ (b : Bool). has_bytes s bs || b) t ∙ or_false (has_bytes s bs))
    ]

-- ---- a use is added

pub adds_known : (u : UseTree) (i : Instances) → has_key i (key_of u) ≡ true → Adds u i i
adds_known u i h = record {
  agrees = λ a. a;
  all = λ a. rw (sym (a u) ∙ h) refl;
}

pub adds_new : (u : UseTree) (key : List ℕ) (old new : Instances) → key ≡ key_of u → has_key old key ≡ false → ((other : List ℕ) → has_key new other ≡ (has_key old other || bytes_eq other key)) → all_of new ≡ all_of old ++ u ∷ [] → Adds u old new
adds_new u key old new is absent keys all = record {
  agrees = λ a v.
      keys (key_of v) ∙ ap (λ (k : List ℕ). has_key old (key_of v) || bytes_eq (key_of v) k) is ∙ ap (λ (b : Bool). b || bytes_eq (key_of v) (key_of u)) (a v)
      ∙ ap (λ (b : Bool). list_any (same_use v) (all_of old) || b) (key_same v u ∙ sym (or_false (same_use v u))) ∙ sym (list_any-append (same_use v) (all_of old) (u ∷ [])) ∙ ap (list_any (same_use v)) (sym all);
  all = λ a. all ∙ rw (sym (a u) ∙ ap (has_key old) (sym is) ∙ absent) refl;
}

-- ---- keys as they are put

-- one item more
pub bytes_more : {X : Type 0} (f : X → List ℕ) (xs : List X) (i : ℕ) (x : X) (before old new : List ℕ) → i < length xs → x ≡ get_or xs i x → old ≡ before ++ flat_map f (take i xs) → new ≡ old ++ f x → new ≡ before ++ flat_map f (take (i + 1) xs)
bytes_more f xs i x before old new l e o n =
    let more : flat_map f (take (i + 1) xs) ≡ flat_map f (take i xs) ++ f x = ap (flat_map f) (take_more xs i x l ∙ ap (λ y. take i xs ++ y ∷ []) (sym e)) ∙ flat_map-append f (take i xs) (x ∷ []) ∙ ap (λ ys. flat_map f (take i xs) ++ ys) (append-nil (f x)) in
    n ∙ ap (λ ys. ys ++ f x) o ∙ append_assoc before (flat_map f (take i xs)) (f x) ∙ ap (λ ys. before ++ ys) (sym more)

-- the same, of an item as it is read with a default
pub bytes_turn : {X : Type 0} (f : X → List ℕ) (xs : List X) (i : ℕ) (d : X) (before old new : List ℕ) → i < length xs → old ≡ before ++ flat_map f (take i xs) → new ≡ old ++ f (get_or xs i d) → new ≡ before ++ flat_map f (take (i + 1) xs)
bytes_turn f xs i d before old new l o n =
    let x = get_or xs i d in
    let more : flat_map f (take (i + 1) xs) ≡ flat_map f (take i xs) ++ f x = ap (flat_map f) (take_more xs i d l) ∙ flat_map-append f (take i xs) (x ∷ []) ∙ ap (λ ys. flat_map f (take i xs) ++ ys) (append-nil (f x)) in
    n ∙ ap (λ ys. ys ++ f x) o ∙ append_assoc before (flat_map f (take i xs)) (f x) ∙ ap (λ ys. before ++ ys) (sym more)

marked_is : (name : List ℕ) → marked name ≡ flat_map (λ b. 1 ∷ b ∷ []) name ++ 0 ∷ []
marked_is [] = refl
marked_is (b ∷ bs) = ap (λ (ys : List ℕ). 1 ∷ b ∷ ys) (marked_is bs)

pub marked_put : (name : List ℕ) (i : ℕ) (before old new : List ℕ) → length name ≤ i → old ≡ before ++ flat_map (λ b. 1 ∷ b ∷ []) (take i name) → new ≡ old ++ 0 ∷ [] → new ≡ before ++ marked name
marked_put name i before old new all o n =
    n ∙ ap (λ ys. ys ++ 0 ∷ []) (o ∙ ap (λ xs. before ++ flat_map (λ b. 1 ∷ b ∷ []) xs) (take_all i name all)) ∙ append_assoc before (flat_map (λ b. 1 ∷ b ∷ []) name) (0 ∷ []) ∙ ap (λ ys. before ++ ys) (sym (marked_is name))

keys_are : (us : List TypeUse) → keys_of (uses_of (map tree_of us)) ≡ flat_map (λ (u : TypeUse). key_of (tree_of u)) us ++ 0 ∷ []
keys_are [] = refl
keys_are (u ∷ us) = ap (λ (ys : List ℕ). key_of (tree_of u) ++ ys) (keys_are us) ∙ sym (append_assoc (key_of (tree_of u)) (flat_map (λ (v : TypeUse). key_of (tree_of v)) us) (0 ∷ []))

pub instance_put : (name : List ℕ) (arguments items : List TypeUse) (i : ℕ) (u : TypeUse) (before head old new : List ℕ) → length items ≤ i → items ≡ arguments → u ≡ Inst name arguments → head ≡ before ++ 4 ∷ marked name
    → old ≡ head ++ flat_map (λ (v : TypeUse). key_of (tree_of v)) (take i items) → new ≡ old ++ 0 ∷ [] → new ≡ before ++ key_of (tree_of u)
instance_put name arguments items i u before head old new all same is h o n =
    let body : List ℕ = flat_map (λ (v : TypeUse). key_of (tree_of v)) arguments in
    let tree : tree_of u ≡ instance name (uses_of (map tree_of arguments)) = ap tree_of is ∙ tree_Inst name arguments in
    let whole : key_of (tree_of u) ≡ 4 ∷ marked name ++ (body ++ 0 ∷ []) = ap key_of tree ∙ ap (λ ys. 4 ∷ marked name ++ ys) (keys_are arguments) in
    n ∙ ap (λ ys. ys ++ 0 ∷ []) (o ∙ ap (λ xs. head ++ flat_map (λ (v : TypeUse). key_of (tree_of v)) xs) (take_all i items all ∙ same) ∙ ap (λ ys. ys ++ body) h ∙ append_assoc before (4 ∷ marked name) body)
    ∙ append_assoc before (4 ∷ marked name ++ body) (0 ∷ []) ∙ ap (λ ys. before ++ 4 ∷ ys) (append_assoc (marked name) body (0 ∷ [])) ∙ ap (λ ys. before ++ ys) (sym whole)

-- a use is added, or was there
pub adds_if_known : (u : UseTree) (key : List ℕ) (i : Instances) → key ≡ key_of u → has_key i key ≡ true → Adds u i i
adds_if_known u key i e h = adds_known u i (ap (has_key i) (sym e) ∙ h)
