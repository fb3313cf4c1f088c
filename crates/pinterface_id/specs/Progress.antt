-- What one piece of work leaves.
use Rattle.std.specs.Prelude.{◌≡◌, ◌<◌, ℕ, Bool, true, false, List, ◌∷◌, Option, None, length}
use Rattle.wr_base.specs.declared.declaration.Declaration.{Declaration}
use Rattle.wr_rules.specs.Signatures.{joined}
use Rattle.pinterface_id.specs.Stack.{Item, put, rest, Opened}

module _ (types : List Declaration) where
  -- what is written and what is left make up the whole
  pub record SoFar (whole : Option (List ℕ)) (flags : List Bool) (st : List Item) (text : List ℕ) : Type 0 where
    pub opened : Opened types flags st
    pub same : whole ≡ put text (joined (rest types st))

  abbrev pub Advanced : Bool → List Bool → Item → List Item → List ℕ → List Bool → List Item → List ℕ → Type 0
  Advanced true flags item st text now ahead new =
      ((whole : Option (List ℕ)) → SoFar whole flags (item ∷ st) text → SoFar whole now ahead new) × (length (rest types ahead) < length (rest types (item ∷ st)))
  Advanced false flags item st text now ahead new = (whole : Option (List ℕ)) → SoFar whole flags (item ∷ st) text → whole ≡ None
