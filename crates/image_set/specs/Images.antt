-- The images of words, each with its types, up to the first event, as far as the store tells what it holds.
use Rattle.std.specs.Prelude.{◌≡◌, ℕ, suc, ◌<◌, ◌≤◌, ⊤, List, [], ◌∷◌, ◌++◌, length, map, Option, None, IsSomeAnd, IfSome, Ok, Err}
use Rattle.std.specs.FinMap as finite
use Rattle.md_schema.specs.declared.faults.ImageFault.{ImageFault}
use Rattle.winmd_rows.specs.Faults.{Faulty}
use Rattle.winmd_strict.specs.Reading.{TypesOf}
use Rattle.wr_base.specs.Trees.{decl_tree}
use Rattle.wr_base.specs.declared.declaration.Declaration.{Declaration}
use Rattle.wr_outside.specs.Files.{Files}

-- the 257th image isn't asked for
abbrev pub most_images : ℕ
most_images = 256

-- and an image has at most so many bytes
abbrev pub image_limit : ℕ
image_limit = 268435456

-- this is what the store holds under the name, as far as it tells
abbrev pub MayRead : Option Files → List ℕ → Option (List ℕ) → Type 0
MayRead held name content = IfSome held (λ files. finite.get files name ≡ content)

-- ---- one image, by its number and by what is held under its name

-- it states these types
abbrev pub TakenBy : ℕ → Option (List ℕ) → List Declaration → Type 0
TakenBy number content types =
    (number < most_images) × IsSomeAnd content (λ bytes. (length bytes ≤ image_limit) × (TypesOf bytes ≡ Ok (map decl_tree types)))

-- what may stop at an image
pub data Event : Type 0 where
  too_many : Event
  missing : Event
  too_long : Event
  faulty : ImageFault → Event

-- it stops here: the image is one too many, isn't held, has more bytes than it may, or states no types, by its first fault
abbrev pub StopsBy : ℕ → Option (List ℕ) → Event → Type 0
StopsBy number content too_many = most_images ≤ number
StopsBy number content missing = (number < most_images) × (content ≡ None)
StopsBy number content too_long = (number < most_images) × IsSomeAnd content (λ bytes. image_limit < length bytes)
StopsBy number content (faulty fault) =
    (number < most_images) × IsSomeAnd content (λ bytes. (length bytes ≤ image_limit) × (TypesOf bytes ≡ Err (Faulty fault)))

module _ (held : Option Files) where
  pub record IsTaken (number : ℕ) (name : List ℕ) (types : List Declaration) : Type 0 where
    pub content : Option (List ℕ)
    pub told : MayRead held name content
    pub is : TakenBy number content types

  pub record StopsAt (number : ℕ) (name : List ℕ) (event : Event) : Type 0 where
    pub content : Option (List ℕ)
    pub told : MayRead held name content
    pub is : StopsBy number content event

  -- ---- images in the order of their words

  -- each states the types at its place, from this number on
  abbrev pub TakenFrom : ℕ → List (List ℕ) → List (List Declaration) → Type 0
  TakenFrom n [] [] = ⊤
  TakenFrom n (name ∷ names) (types ∷ sets) = IsTaken n name types × TakenFrom (suc n) names sets
  TakenFrom n _ _ = ⊥

  abbrev pub AreTaken : List (List ℕ) → List (List Declaration) → Type 0
  AreTaken words sets = TakenFrom 0 words sets

  -- each word before one of this name is that of an image
  pub record Reaches (words : List (List ℕ)) (name : List ℕ) : Type 0 where
    pub before : List (List ℕ)
    pub behind : List (List ℕ)
    pub parts : words ≡ before ++ name ∷ behind
    pub sets : List (List Declaration)
    pub taken : AreTaken before sets

  -- the first event stands at the word of this name
  pub record FirstEvent (words : List (List ℕ)) (name : List ℕ) (event : Event) : Type 0 where
    pub reached : Reaches words name
    pub stops : StopsAt (length reached.before) name event

  -- no event stands before the word of this name, which isn't one too many
  pub record Awaits (words : List (List ℕ)) (name : List ℕ) : Type 0 where
    pub reached : Reaches words name
    pub few : length reached.before < most_images
