-- Reading tokens from the left, with one token of look-ahead.
use Rattle.std.specs.Prelude.{◌≡◌, ℕ, Result, Err, Ok, List, [], ◌∷◌, Bool, is_some}
use Rattle.grammar.specs.Readers.{Read, one_at, done_at, ◌>>=◌, optional_at, many_at}
use Rattle.midl_tree.specs.declared.kind.Kind.{Kind}
use Rattle.midl_tree.specs.Kinds.{number_of, names, own_names}
use Rattle.midl_tree.specs.Symbols.{kind_of}
use Rattle.midl_tree.specs.declared.terminal.Terminal.{Terminal}
use Rattle.midl_tree.specs.declared.kind.Kind.TheVariants.{Dot}
use Rattle.midl_words.specs.declared.stop.Code.{Code}
use Rattle.midl_words.specs.declared.stop.Stop.{Stop}
use Rattle.midl_words.specs.declared.stop.Code.TheVariants.{Syntax}
use Rattle.midl_words.specs.declared.stop.Stop.TheVariants as stops

-- What a function returned, seen by view, is what reading gives, unless memory ran out.
abbrev pub Fails : {Y : Type 0} → Stop → Result Y (Code × ℕ) → Type 0
Fails stops.Memory read = Unit {0}
Fails (stops.Fault c n) read = read ≡ Err (c, n)

abbrev pub Gives : {X Y : Type 0} → (X → Y) → Result X Stop → Result Y (Code × ℕ) → Type 0
Gives view (Ok x) read = read ≡ Ok (view x)
Gives view (Err e) read = Fails e read

abbrev pub is_at : Kind → List Terminal → Read Code Terminal Terminal
is_at k = one_at kind_of (number_of k ∷ []) Syntax

abbrev pub name_at : List Terminal → Read Code Terminal Terminal
name_at = one_at kind_of names Syntax

abbrev pub own_name_at : List Terminal → Read Code Terminal Terminal
own_name_at = one_at kind_of own_names Syntax

unfoldable pub is_there_at : Kind → List Terminal → Read Code Terminal Bool
is_there_at k = do
  mark ← optional_at kind_of (number_of k ∷ []) (is_at k)
  done_at (is_some mark)

unfoldable pub behind_at : {A : Type 0} → Kind → (List Terminal → Read Code Terminal A) → List Terminal → Read Code Terminal A
behind_at k r = do
  mark ← is_at k
  r

abbrev pub more_dots_at : List Terminal → Read Code Terminal (List Terminal)
more_dots_at = many_at kind_of (number_of Dot ∷ []) (behind_at Dot name_at)

unfoldable pub dotted_at : List Terminal → Read Code Terminal (List Terminal)
dotted_at = do
  first ← name_at
  others ← more_dots_at
  done_at (first ∷ others)
