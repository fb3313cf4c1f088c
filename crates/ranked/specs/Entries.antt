-- What may be broken, and its order.
use Rattle.std.specs.Prelude.{◌≡◌, ℕ, List, ◌∷◌, false, Option, Some, None, if◌then◌else◌}
use Rattle.std.specs.declared.cmp.Ordering.{Ordering}
use Rattle.std.specs.Ordering.{nat_cmp, is_gt}
use Rattle.std.specs.Cmp.Lexicographic.{slice_cmp}

-- a place, the rank of what is broken there, and a word
pub record Entry : Type 0 where
  pub file : ℕ
  pub offset : ℕ
  pub code : ℕ
  pub word : List ℕ

-- by file, offset, order in the table and word by bytes: the order of these lists
abbrev pub key : Entry → List ℕ
key e = e.file ∷ e.offset ∷ e.code ∷ e.word

abbrev pub entry_cmp : Entry → Entry → Ordering
entry_cmp a b = slice_cmp nat_cmp (key a) (key b)

-- a stands before b, or is it
abbrev pub UpTo : Entry → Entry → Type 0
UpTo a b = is_gt (entry_cmp a b) ≡ false

-- the lesser of two that may be there
unfoldable pub earlier_of : Option Entry → Option Entry → Option Entry
earlier_of None b = b
earlier_of (Some a) None = Some a
earlier_of (Some a) (Some b) = if is_gt (entry_cmp a b) then Some b else Some a
