-- Parts that stand in a list at an offset: the one relation between an image and what is laid out in it.
use Rattle.std.specs.Prelude.{◌≡◌, ℕ, List, ◌++◌, length}

-- The part stands in the whole behind so many elements.
pub record Stands {A : Type 0} (whole : List A) (offset : ℕ) (part : List A) : Type 0 where
  pub front : List A
  pub back : List A
  pub split : whole ≡ front ++ (part ++ back)
  pub at : length front ≡ offset
