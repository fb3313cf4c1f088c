-- The fault of parsing is the one entry of its phase.
use Rattle.std.proofs.Common.{◌≡◌, ℕ, ◌≤◌, List, length, map, Some, None, Result, Ok, Err, refl, sym, ap, subst, ◌∙◌, arith}
use Rattle.std.proofs.lemmas.List.{length-append, length-map}
use Rattle.ranked.specs.Entries.{Entry, UpTo}
use Rattle.ranked.specs.First.{IsFirst}
use Rattle.ranked.specs.declared.stop.Stop.TheVariants.{Refused}
use Rattle.ranked.proofs.FirstLaws.{itself}
use Rattle.grammar.specs.Faults.{FaultAt}
use Rattle.grammar.proofs.Places.{one_place, taken_no_fault}
use Rattle.midl_lex.specs.Pieces.{Piece}
use Rattle.midl_tree.specs.declared.nodes.File.{File}
use Rattle.midl_tree.specs.declared.terminal.Terminal.{Terminal}
use Rattle.midl_words.specs.declared.stop.Code.{Code}
use Rattle.midl_words.specs.declared.stop.Code.TheVariants.{Syntax, FloatType, UnknownAttribute, TooDeep}
use Rattle.midl_words.specs.Words.{terminal_of}
use Rattle.midl_tree.specs.Trees.{SourceTree}
use Rattle.midl_parse.specs.Files.{IsSource}
use Rattle.midl_parse.specs.ReadFiles.{source_at}
use Rattle.midl_tree.specs.Views.{source_view}
use Rattle.midl_parse.specs.Faults.{IsFault}
use Rattle.midl_parse.specs.Entries.{entry, Parsing, Parses, RefusedFirst, Refuses}
use Rattle.midl_parse.proofs.FileLaws.{takes, faulty}
use Rattle.midl_parse.proofs.OneTree.{one_source}

-- two faults of one list at one place have one code
same_code : (ts : List Terminal) (n : ℕ) (c d : Code) → IsFault ts c n → IsFault ts d n → c ≡ d
same_code ts n TooDeep d f g = sym (g.deep.1 (f.deep.0 refl))
same_code ts n FloatType d f g = sym (g.float.1 (f.float.0 refl))
same_code ts n UnknownAttribute d f g = sym (g.unknown.1 (f.unknown.0 refl))
same_code ts n Syntax TooDeep f g = f.deep.1 (g.deep.0 refl)
same_code ts n Syntax FloatType f g = f.float.1 (g.float.0 refl)
same_code ts n Syntax UnknownAttribute f g = f.unknown.1 (g.unknown.0 refl)
same_code ts n Syntax Syntax f g = refl

-- tokens have one fault
pub one_fault : (ts : List Terminal) (c d : Code) (m n : ℕ) → IsFault ts c m → IsFault ts d n → (c ≡ d) × (m ≡ n)
one_fault ts c d m n f g =
    let at : m ≡ n = one_place IsSource ts m n f.stands g.stands in
    (same_code ts n c d (subst (λ (k : ℕ). IsFault ts c k) at f) g, at)

pub tree_no_fault : (ts : List Terminal) (tree : SourceTree) (code : Code) (left : ℕ) → IsSource ts tree → IsFault ts code left → ⊥
tree_no_fault ts tree code left h f = taken_no_fault IsSource ts tree left h f.stands

-- no more tokens are left than there are
pub left_within : (pieces : List Piece) (code : Code) (left : ℕ) → IsFault (map terminal_of pieces) code left → left ≤ length pieces
left_within pieces code left f =
    let at : FaultAt IsSource (map terminal_of pieces) left = f.stands in
    omega (arith, at.left, ap length at.parts, length-append at.front at.rest, length-map pieces terminal_of)

module _ (file : ℕ) (pieces : List Piece) where
  abbrev ts : List Terminal
  ts = map terminal_of pieces

  one_entry : (c d : Code) (m n : ℕ) → IsFault ts c m → IsFault ts d n → entry file pieces c m ≡ entry file pieces d n
  one_entry c d m n f g =
      let same = one_fault ts c d m n f g in
      ap (λ (x : Code). entry file pieces x m) same.0 ∙ ap (entry file pieces d) same.1

  pub entered : (code : Code) (left : ℕ) → IsFault ts code left → IsFirst (Parsing file pieces) (Some (entry file pieces code left))
  unfolding IsFirst Parsing
  entered code left f = record {
    stands = (code, left, f, refl);
    least = λ other o. subst (λ (x : Entry). UpTo (entry file pieces code left) x) (one_entry code o.0 left o.1 f o.2 ∙ sym o.3) (itself (entry file pieces code left));
  }

  -- the first entry is that of the fault
  is_entry : (e : Entry) (code : Code) (left : ℕ) → IsFirst (Parsing file pieces) (Some e) → IsFault ts code left → e ≡ entry file pieces code left
  unfolding IsFirst Parsing
  is_entry e code left first f = let o = first.stands in o.3 ∙ one_entry o.0 code o.1 left o.2 f

  no_first : (e : Entry) (tree : SourceTree) → IsSource ts tree → IsFirst (Parsing file pieces) (Some e) → ⊥
  unfolding IsFirst Parsing
  no_first e tree h first = let o = first.stands in tree_no_fault ts tree o.0 o.1 h o.2

  pub nothing_entered : (tree : SourceTree) → IsSource ts tree → IsFirst (Parsing file pieces) None
  unfolding IsFirst Parsing
  nothing_entered tree h = λ e o. tree_no_fault ts tree o.0 o.1 h o.2

  pub some_entered : ((tree : SourceTree) → ¬ (IsSource ts tree)) → (e : Entry) × IsFirst (Parsing file pieces) (Some e)
  some_entered none = go (source_at ts) refl
    where
      go : (o : Result SourceTree (Code × ℕ)) → source_at ts ≡ o → (e : Entry) × IsFirst (Parsing file pieces) (Some e)
      go (Ok tree) was = absurd (none tree (takes ts tree was))
      go (Err f) was = (entry file pieces f.0 f.1, entered f.0 f.1 (faulty ts f.0 f.1 was))

  -- ---- what parsing answers, where the list that is read is that of the tokens

  pub found_is : (read : List Terminal) (tree : SourceTree) → read ≡ ts → IsSource read tree → IsSource ts tree
  found_is read tree are h = subst (λ (u : List Terminal). IsSource u tree) are h

  pub fault_is : (read : List Terminal) (code : Code) (left : ℕ) → read ≡ ts → IsFault read code left → IsFault ts code left
  fault_is read code left are h = subst (λ (u : List Terminal). IsFault u code left) are h

  pub found_only : (f : File) → IsSource ts (source_view f) → (tree : SourceTree) → IsSource ts tree → Parses tree (Ok f)
  found_only f h tree g = one_source ts (source_view f) tree h g

  pub found_first : (f : File) → IsSource ts (source_view f) → (e : Entry) → IsFirst (Parsing file pieces) (Some e) → Refuses e (Ok f)
  found_first f h e first = no_first e (source_view f) h first

  pub refused_only : (code : Code) (left : ℕ) → IsFault ts code left → (tree : SourceTree) → IsSource ts tree → ⊥
  refused_only code left f tree h = tree_no_fault ts tree code left h f

  pub refused_first : (code : Code) (left : ℕ) (r : Entry) → IsFault ts code left → r ≡ entry file pieces code left → (e : Entry) → IsFirst (Parsing file pieces) (Some e) → Refuses e (Err (Refused r))
  refused_first code left r f is e first = is ∙ sym (is_entry e code left first f)

  pub refused_is : (code : Code) (left : ℕ) (r : Entry) → IsFault ts code left → r ≡ entry file pieces code left → RefusedFirst file pieces (Refused r)
  refused_is code left r f is = subst (λ (x : Entry). IsFirst (Parsing file pieces) (Some x)) (sym is) (entered code left f)
