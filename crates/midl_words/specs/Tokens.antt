-- The productions of single tokens and of dotted names, as they stand in docs/midl.md, over whole lists of tokens.
use Rattle.std.specs.Prelude.{List, [], ◌∷◌, Bool, is_some}
use Rattle.grammar.specs.Productions.{One, Done, ◌>>=◌, Optional, Many}
use Rattle.midl_tree.specs.declared.kind.Kind.{Kind}
use Rattle.midl_tree.specs.Kinds.{number_of, names, own_names}
use Rattle.midl_tree.specs.Symbols.{kind_of}
use Rattle.midl_tree.specs.declared.terminal.Terminal.{Terminal}
use Rattle.midl_tree.specs.declared.kind.Kind.TheVariants.{Dot}

-- one token of the kind
abbrev pub Is : Kind → List Terminal → Terminal → Type 0
Is k = One kind_of (number_of k ∷ [])

-- [ mark ]: whether it is there
abbrev pub IsThere : Kind → List Terminal → Bool → Type 0
IsThere k = do
  mark ← Optional (Is k)
  Done (is_some mark)

-- a Name
abbrev pub IsName : List Terminal → Terminal → Type 0
IsName = One kind_of names

-- the Name of a declared type
abbrev pub IsOwnName : List Terminal → Terminal → Type 0
IsOwnName = One kind_of own_names

-- P behind a mark
abbrev pub Behind : {A : Type 0} → Kind → (List Terminal → A → Type 0) → List Terminal → A → Type 0
Behind k P = do
  mark ← Is k
  P

-- Dotted = Name { "." Name } .
abbrev pub IsDotted : List Terminal → List Terminal → Type 0
IsDotted = do
  first ← IsName
  others ← Many (Behind Dot IsName)
  Done (first ∷ others)
