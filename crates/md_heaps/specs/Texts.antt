-- `#Strings` (ECMA-335 II.24.2.3): texts in UTF-8, each ended by a zero byte.
use Rattle.std.specs.Prelude.{◌≢◌, ℕ, List, [], ◌∷◌, ◌++◌, All}
use Rattle.std.specs.FinMap.{insert, empty}
use Rattle.md_heaps.specs.Heaps.{Heap, StandsAt}

-- no byte is zero
abbrev pub HasNoZero : List ℕ → Type 0
HasNoZero bytes = All (λ b. b ≢ 0) bytes

-- a text and its end
abbrev pub text_bytes : List ℕ → List ℕ
text_bytes text = text ++ 0 ∷ []

-- the bytes from the index to the first zero are these
pub record TextAt (heap : List ℕ) (at : ℕ) (text : List ℕ) : Type 0 where
  pub whole : StandsAt heap at (text_bytes text)
  pub ends : HasNoZero text

-- a new heap: the empty text at 0
abbrev pub first_text : Heap
first_text = record { bytes = 0 ∷ []; entries = insert empty [] 0 }
