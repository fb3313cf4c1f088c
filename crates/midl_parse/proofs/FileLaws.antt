-- Whole files: what is read has a tree, what has a tree is read, and a fault is the first one, with its code.
use Rattle.std.proofs.Common.{◌≡◌, ◌↔◌, ℕ, zero, suc, List, Result, Ok, Err, refl, sym, ◌∙◌}
use Rattle.std.specs.Prelude.{IfOk, IfErr}
use Rattle.grammar.specs.Faults.{FaultAt, Opens}
use Rattle.grammar.proofs.Whole.{all_takes, all_again, all_fault}
use Rattle.grammar.proofs.Codes.{special, stays, other_code, no_opens}
use Rattle.midl_tree.specs.declared.terminal.Terminal.{Terminal}
use Rattle.midl_tree.specs.declared.nodes.File.{File}
use Rattle.midl_words.specs.declared.stop.Code.{Code}
use Rattle.midl_words.specs.declared.stop.Code.TheVariants.{Syntax, FloatType, UnknownAttribute, TooDeep}
use Rattle.midl_words.specs.declared.stop.Stop.{Stop}
use Rattle.midl_words.specs.declared.stop.Stop.TheVariants as stops
use Rattle.midl_tree.specs.Symbols.{kind_of}
use Rattle.midl_words.specs.Reading.{Gives}
use Rattle.midl_tree.specs.Trees.{SourceTree}
use Rattle.midl_parse.specs.Files.{IsSource, IsSourceWith}
use Rattle.midl_parse.specs.Types.{IsBase}
use Rattle.midl_parse.specs.Attributes.{IsAttribute}
use Rattle.midl_parse.specs.ReadFiles.{source_at, source_with}
use Rattle.midl_parse.specs.ReadAttributes.{attribute_at}
use Rattle.midl_parse.specs.ReadTypes.{base_at}
use Rattle.midl_tree.specs.Views.{source_view}
use Rattle.midl_parse.specs.Faults.{raised, IsDeep, IsFloat, IsUnknown, IsFault, StandsAt}
use Rattle.midl_parse.proofs.DepthLaws.{no_float, no_unknown, no_deep, too_deep, float_type, unknown}
use Rattle.grammar.specs.Readers.{all_at}

-- reading with some limits
abbrev with_limits : ℕ → List Terminal → Result SourceTree (Code × ℕ)
with_limits k = all_at (source_with (raised k 15) (raised k 15) attribute_at base_at) Syntax

-- another fault stays, however far the limits are raised
still : (k : ℕ) (ts : List Terminal) (code : Code) (left : ℕ) → (code ≡ TooDeep → ⊥) → with_limits zero ts ≡ Err (code, left) → with_limits k ts ≡ Err (code, left)
still zero ts code left other e = e
still (suc k) ts code left other e = stays (too_deep (raised k 15) (raised k 15)) Syntax no_deep ts code left other (still k ts code left other e)

not_deep : (k : ℕ) (ts : List Terminal) (code : Code) (left : ℕ) → (code ≡ TooDeep → ⊥) → with_limits zero ts ≡ Err (code, left) → Opens (IsSourceWith (raised k 15) (raised k 15) IsAttribute IsBase) ts left → ⊥
not_deep k ts code left other e o =
    no_opens (all_fault kind_of (IsSourceWith (raised k 15) (raised k 15) IsAttribute IsBase) (source_with (raised k 15) (raised k 15) attribute_at base_at) Syntax _ _ _ (too_deep (raised k 15) (raised k 15)).low ts code left (still k ts code left other e)) o

module _ (ts : List Terminal) where
  pub takes : (tree : SourceTree) → source_at ts ≡ Ok tree → IsSource ts tree
  unfolding source_at
  takes tree = all_takes kind_of IsSource (source_with 15 15 attribute_at base_at) Syntax _ _ _ (too_deep 15 15).low ts tree

  again : (tree : SourceTree) → IsSource ts tree → source_at ts ≡ Ok tree
  unfolding source_at
  again tree = all_again kind_of IsSource (source_with 15 15 attribute_at base_at) Syntax _ _ _ (too_deep 15 15).low ts tree

  stands : (code : Code) (left : ℕ) → with_limits zero ts ≡ Err (code, left) → FaultAt IsSource ts left
  stands code left = all_fault kind_of IsSource (source_with 15 15 attribute_at base_at) Syntax _ _ _ (too_deep 15 15).low ts code left

  deep : (code : Code) (left : ℕ) → with_limits zero ts ≡ Err (code, left) → (code ≡ TooDeep) ↔ IsDeep ts left
  deep TooDeep left e = (λ same. (suc zero, special (too_deep 15 15) Syntax no_deep ts left e), λ o. refl)
  deep Syntax left e = (λ same. absurd cc, λ o. absurd (not_deep o.0 ts Syntax left (λ same. cc) e o.1))
  deep FloatType left e = (λ same. absurd cc, λ o. absurd (not_deep o.0 ts FloatType left (λ same. cc) e o.1))
  deep UnknownAttribute left e = (λ same. absurd cc, λ o. absurd (not_deep o.0 ts UnknownAttribute left (λ same. cc) e o.1))

  float : (code : Code) (left : ℕ) → with_limits zero ts ≡ Err (code, left) → (code ≡ FloatType) ↔ IsFloat ts left
  float FloatType left e = (λ same. special (float_type 15 15) Syntax no_float ts left e, λ o. refl)
  float Syntax left e = (λ same. absurd cc, λ o. absurd (other_code (float_type 15 15) Syntax no_float ts Syntax left (λ same. cc) e o))
  float UnknownAttribute left e = (λ same. absurd cc, λ o. absurd (other_code (float_type 15 15) Syntax no_float ts UnknownAttribute left (λ same. cc) e o))
  float TooDeep left e = (λ same. absurd cc, λ o. absurd (other_code (float_type 15 15) Syntax no_float ts TooDeep left (λ same. cc) e o))

  names : (code : Code) (left : ℕ) → with_limits zero ts ≡ Err (code, left) → (code ≡ UnknownAttribute) ↔ IsUnknown ts left
  names UnknownAttribute left e = (λ same. special (unknown 15 15) Syntax no_unknown ts left e, λ o. refl)
  names Syntax left e = (λ same. absurd cc, λ o. absurd (other_code (unknown 15 15) Syntax no_unknown ts Syntax left (λ same. cc) e o))
  names FloatType left e = (λ same. absurd cc, λ o. absurd (other_code (unknown 15 15) Syntax no_unknown ts FloatType left (λ same. cc) e o))
  names TooDeep left e = (λ same. absurd cc, λ o. absurd (other_code (unknown 15 15) Syntax no_unknown ts TooDeep left (λ same. cc) e o))

  pub faulty : (code : Code) (left : ℕ) → source_at ts ≡ Err (code, left) → IsFault ts code left
  unfolding source_at
  faulty code left e = record { stands = stands code left e; deep = deep code left e; float = float code left e; unknown = names code left e }

  pub is_found : (result : Result File Stop) → Gives source_view result (source_at ts) → IfOk result (λ file. IsSource ts (source_view file))
  is_found (Ok f) given = takes (source_view f) given
  is_found (Err stop) given = tt

  pub is_only : (result : Result File Stop) → Gives source_view result (source_at ts) → (tree : SourceTree) → IsSource ts tree → Gives source_view result (Ok tree)
  is_only (Ok f) given tree h = sym (again tree h) ∙ given
  is_only (Err stops.Memory) given tree h = tt
  is_only (Err (stops.Fault code left)) given tree h = sym (again tree h) ∙ given

  pub is_fault : (result : Result File Stop) → Gives source_view result (source_at ts) → IfErr result (λ stop. StandsAt ts stop)
  is_fault (Ok f) given = tt
  is_fault (Err stops.Memory) given = tt
  is_fault (Err (stops.Fault code left)) given = faulty code left given
