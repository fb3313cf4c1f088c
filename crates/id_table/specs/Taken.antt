-- Who has an id.
use Rattle.std.specs.Prelude.{◌≡◌, ◌≢◌, ◌<◌, ◌≤◌, ◌↔◌, ◌⊎◌, slice_index_or, map, ℕ, Bool, false, IsTrue, List, [], ◌∷◌, Option, Some, nat_eq}
use Rattle.std.specs.Global.{Vec}
use Rattle.std.specs.HashMap.{HashMap, get}
use Rattle.std.specs.declared.hash.FoldHasher.{FoldHasher}
use Rattle.std.specs.declared.hash.BuildHasherDefault.{BuildHasherDefault}

-- the owners, by id
abbrev pub Owners : Type 0
Owners = HashMap ℕ ℕ (BuildHasherDefault FoldHasher)

-- the owner of an id
abbrev pub owner : Owners → ℕ → Option ℕ
owner owners id = get nat_eq owners id

abbrev pub Kept : (ℕ → Option ℕ) → (ℕ → Option ℕ) → Type 0
Kept f g = (i t : ℕ) → f i ≡ Some t → g i ≡ Some t

-- one of the texts with their ids
abbrev pub Has : List (ℕ × ℕ) → ℕ → ℕ → Type 0
Has [] text id = ⊥
Has (x ∷ xs) text id = ((x.0 ≡ text) × (x.1 ≡ id)) ⊎ Has xs text id

-- what is new stands in the list
abbrev pub Grown : (ℕ → Option ℕ) → (ℕ → Option ℕ) → List (ℕ × ℕ) → Type 0
Grown f g items = (i t : ℕ) → g i ≡ Some t → (f i ≡ Some t) ⊎ Has items t i

-- each text of the list has its id
abbrev pub Agrees : (ℕ → Option ℕ) → List (ℕ × ℕ) → Type 0
Agrees g items = (t i : ℕ) → Has items t i → g i ≡ Some t

-- a text's id is another one's
pub record Another (g : ℕ → Option ℕ) (items : List (ℕ × ℕ)) : Type 0 where
  pub text : ℕ
  pub id : ℕ
  pub of_list : Has items text id
  pub other : ℕ
  pub has : g id ≡ Some other
  pub apart : other ≢ text

pub record Taken (f : ℕ → Option ℕ) (g : ℕ → Option ℕ) (items : List (ℕ × ℕ)) (taken : Bool) : Type 0 where
  pub kept : Kept f g
  pub grown : Grown f g items
  pub met : (t i : ℕ) → Has items t i → (s : ℕ) × (g i ≡ Some s)
  pub told : IsTrue taken → Another g items
  pub untold : (IsTrue taken → ⊥) → Agrees g items

abbrev pub One : (ℕ → Option ℕ) → (ℕ → Option ℕ) → ℕ → ℕ → Bool → Type 0
One f g text id other = Taken f g ((text, id) ∷ []) other

-- what stands at each place, and nothing past the end
abbrev pub at : List (List (ℕ × ℕ)) → ℕ → List (ℕ × ℕ)
at places k = slice_index_or places k []

-- each text stands at one place, and none is an owner from before
pub record IsPlain (f : ℕ → Option ℕ) (places : List (List (ℕ × ℕ))) : Type 0 where
  pub once : (t i h j k : ℕ) → Has (at places j) t i → Has (at places k) t h → j ≡ k
  pub strange : (t i h k : ℕ) → f i ≡ Some t → Has (at places k) t h → ⊥

-- an id of what stands at k is an owner's from before, or another text's that stands no later
pub record IsTaken (f : ℕ → Option ℕ) (places : List (List (ℕ × ℕ))) (k : ℕ) : Type 0 where
  pub text : ℕ
  pub id : ℕ
  pub stands : Has (at places k) text id
  pub other : ℕ
  pub apart : other ≢ text
  pub earlier : (f id ≡ Some other) ⊎ ((j : ℕ) × (j ≤ k) × Has (at places j) other id)

-- the answers of the first so many places
abbrev pub AreTaken : (ℕ → Option ℕ) → List (List (ℕ × ℕ)) → ℕ → List Bool → Type 0
AreTaken f places n on = (k : ℕ) → k < n → (IsTrue (slice_index_or on k false) ↔ IsTaken f places k)

abbrev pub lists_of : List (Vec (ℕ × ℕ)) → List (List (ℕ × ℕ))
lists_of places = map (λ v. v.items) places
