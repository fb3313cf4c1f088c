-- A file's bytes have no more tokens than there are bytes.
use Rattle.std.proofs.Common.{ℕ, ◌+◌, ◌<◌, ◌≤◌, ◌^◌, List, [], ◌∷◌, length, map, inl, inr, ap, arith}
use Rattle.std.specs.List.{All}
use Rattle.std.proofs.lemmas.List.{length-append, length-map}
use Rattle.std.proofs.lemmas.Option.{slice_get-get_or}
use Rattle.midl_lex.specs.Lexemes.{Lexeme, IsLexeme}
use Rattle.midl_lex.specs.Tokens.{Cuts, token_if, tokens_of}
use Rattle.midl_lex.specs.declared.token.LexemeKind.{LexemeKind}
use Rattle.midl_lex.specs.declared.token.LexemeKind.TheVariants.{White, LineComment, BlockComment, Token}
use Rattle.midl_lex.specs.declared.token.TokenKind.TheVariants.{Word, Number, Guid, Text, Mark}
use Rattle.midl_tree.specs.Trees.{SourceTree}
use Rattle.midl_words.specs.Words.{terminal_of}
use Rattle.source_set.specs.Events.{Begins}
use Rattle.source_set.specs.Found.{Read}
use Rattle.source_set.specs.Phases.{HasTree}
use Rattle.proper_sources.specs.Spelled.{IsSpelled}

some_bytes : (kind : LexemeKind) (text : List ℕ) → IsLexeme kind text → 1 ≤ length text
some_bytes White text h = omega (arith, ap length h.1)
some_bytes LineComment text h = omega (arith, ap length h.1)
some_bytes BlockComment text h = omega (arith, ap length h.1)
some_bytes (Token Word) text h = omega (arith, ap length h.2)
some_bytes (Token Number) text (inl h) = omega (arith, ap length h.2)
some_bytes (Token Number) text (inr h) = omega (arith, ap length h.3)
some_bytes (Token Guid) text h = omega (arith, h.0)
some_bytes (Token Text) text h = omega (arith, ap length h.1)
some_bytes (Token Mark) text h = omega (arith, ap length h.1)

cut_count : (bytes : List ℕ) (from to : ℕ) (ls : List Lexeme) → Cuts bytes from ls to → from + length ls ≤ to
cut_count bytes from to [] h = omega (arith, h)
cut_count bytes from to (l ∷ ls) h = omega (arith, some_bytes l.kind l.text h.1.is, cut_count bytes (from + length l.text) to ls h.2)

one_token : (offset : ℕ) (kind : LexemeKind) (text : List ℕ) → length (token_if offset kind text) ≤ 1
one_token offset White text = omega arith
one_token offset LineComment text = omega arith
one_token offset BlockComment text = omega arith
one_token offset (Token kind) text = omega arith

token_count : (ls : List Lexeme) → length (tokens_of ls) ≤ length ls
token_count [] = omega arith
token_count (l ∷ ls) = omega (arith, length-append (token_if l.offset l.kind l.text) (tokens_of ls), one_token l.offset l.kind l.text, token_count ls)

pub tree_spelled : (bytes : List ℕ) (tree : SourceTree) → length bytes < 2 ^ 64 → HasTree bytes tree → IsSpelled tree
tree_spelled bytes tree l h = record {
  tokens = map terminal_of h.pieces;
  spells = h.spells;
  few = omega (arith, l, length-map h.pieces terminal_of, ap length h.lexes.are, token_count h.lexes.lexemes, cut_count bytes _ (length bytes) h.lexes.lexemes h.lexes.cut);
}

pub reads_spelled : (words : List (List ℕ)) (reads : List Read) → Begins words reads → All (λ (r : Read). IsSpelled r.tree) reads
reads_spelled words reads h k d l =
    let f = h.each k _ (slice_get-get_or reads k d l) in
    tree_spelled _ _ (omega (arith, f.short)) f.tree
