-- Lists behind commas and within braces.
use Rattle.std.specs.Prelude.{List, ◌∷◌, [], Option, Some, None}
use Rattle.grammar.specs.Productions.{Done, ◌>>=◌, Many}
use Rattle.midl_tree.specs.declared.kind.Kind.TheVariants.{Comma, OpenBrace, CloseBrace, Semicolon}
use Rattle.midl_tree.specs.declared.terminal.Terminal.{Terminal}
use Rattle.midl_words.specs.Tokens.{Behind, Is, IsThere}

-- P { "," P }
abbrev pub Listed : {A : Type 0} → (List Terminal → A → Type 0) → List Terminal → List A → Type 0
Listed P = do
  first ← P
  others ← Many (Behind Comma P)
  Done (first ∷ others)

-- "{" { P } "}" [ ";" ]
abbrev pub InBraces : {A : Type 0} → (List Terminal → A → Type 0) → List Terminal → List A → Type 0
InBraces P = do
  begin ← Is OpenBrace
  items ← Many P
  close ← Is CloseBrace
  end ← IsThere Semicolon
  Done items

-- a list that may be left out
abbrev pub or_none : {A : Type 0} → Option (List A) → List A
or_none None = []
or_none (Some xs) = xs
