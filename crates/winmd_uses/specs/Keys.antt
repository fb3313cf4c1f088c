-- A key for each use, by which it is looked up: uses of one key are one use, which isn't so of texts.
use Rattle.std.specs.Prelude.{ℕ, List, [], ◌∷◌, ◌++◌}
use Rattle.wr_base.specs.Trees.{UseTree, plain, value, reference, instance, UseTrees, no_uses, use_and, base_number}

-- each byte behind a 1, and a 0 at the end
abbrev pub marked : List ℕ → List ℕ
marked [] = 0 ∷ []
marked (b ∷ bs) = 1 ∷ b ∷ marked bs

abbrev mutual
  pub key_of : UseTree → List ℕ
  key_of (plain base) = 1 ∷ base_number base ∷ []
  key_of (value name) = 2 ∷ marked name
  key_of (reference name) = 3 ∷ marked name
  key_of (instance name arguments) = 4 ∷ marked name ++ keys_of arguments

  -- and a 0 behind the last
  pub keys_of : UseTrees → List ℕ
  keys_of no_uses = 0 ∷ []
  keys_of (use_and u us) = key_of u ++ keys_of us
