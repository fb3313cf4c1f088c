-- Where comments end.
use Rattle.std.specs.Prelude.{ℕ, suc, ◌+◌, Bool, false, ◌&&◌, ◌==◌, if◌then◌else◌, List, [], ◌∷◌, Option, Some, None}
use Rattle.midl_lex.specs.declared.token.LexemeKind.{LexemeKind}
use Rattle.midl_lex.specs.declared.token.LexemeKind.TheVariants.{LineComment, BlockComment}
use Rattle.midl_lex.specs.Bytes.{run, not_line_feed}

-- the front is the end of a comment, */
abbrev pub ends_comment : List ℕ → Bool
ends_comment [] = false
ends_comment (b ∷ []) = false
ends_comment (b ∷ c ∷ bs) = (b == 42) && (c == 47)

abbrev pub one_more : Option ℕ → Option ℕ
one_more None = None
one_more (Some n) = Some (suc n)

-- how many bytes there are up to the first end of a comment, with it
unfoldable pub find_end : List ℕ → Option ℕ
find_end [] = None
find_end (b ∷ bs) = if ends_comment (b ∷ bs) then Some 2 else one_more (find_end bs)

abbrev pub block : Option ℕ → Option (LexemeKind × ℕ)
block None = None
block (Some n) = Some (BlockComment, n + 2)

-- the comment that a slash and these bytes begin, and its length
abbrev pub scan_slash : List ℕ → Option (LexemeKind × ℕ)
scan_slash [] = None
scan_slash (c ∷ cs) = if c == 47 then Some (LineComment, run not_line_feed cs + 2) else if c == 42 then block (find_end cs) else None
