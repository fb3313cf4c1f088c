-- The turns of the loop over an enum's cases.
use Rattle.std.proofs.Common.{◌≡◌, ◌<◌, true, false, List, [], ◌∷◌, ◌++◌, length, Ok, refl}
use Rattle.grammar.specs.Readers.{Read, starts, trailing_at, after_front}
use Rattle.grammar.proofs.Trails.{trail_goes_on, trail_fails, trail_last, trail_ends}
use Rattle.midl_tree.specs.declared.kind.Kind.TheVariants.{Comma, Equals}
use Rattle.midl_tree.specs.Symbols.{kind_of}
use Rattle.midl_tree.specs.declared.terminal.Terminal.{Terminal}
use Rattle.midl_tree.specs.declared.nodes.CaseNode.{CaseNode}
use Rattle.midl_words.specs.declared.stop.Code.{Code}
use Rattle.midl_words.specs.declared.stop.Stop.{Stop}
use Rattle.midl_words.specs.declared.stop.Stop.TheVariants as stops
use Rattle.midl_tree.specs.Kinds.{number_of, names}
use Rattle.midl_words.specs.Tokens.{Is}
use Rattle.midl_parse.specs.Enums.{IsCase}
use Rattle.midl_words.specs.Reading.{Fails, is_at}
use Rattle.midl_parse.specs.ReadEnums.{case_at}
use Rattle.midl_words.proofs.Laws.{is_reads}
use Rattle.midl_parse.proofs.EnumLaws.{case_reads}

abbrev tail_at : List Terminal → Read Code Terminal (List CaseNode)
tail_at = trailing_at kind_of (number_of Comma ∷ []) (is_at Comma) names case_at

pub case_goes_on : (front : List CaseNode) (ts us rest : List Terminal) (y : Terminal) (x : CaseNode) (whole : Read Code Terminal (List CaseNode)) → starts kind_of (number_of Comma ∷ []) ts ≡ true → is_at Comma ts ≡ Ok (y, us) → starts kind_of names us ≡ true → case_at us ≡ Ok (x, rest)
    → after_front front tail_at ts ≡ whole → (after_front (front ++ x ∷ []) tail_at rest ≡ whole) × (length rest < length ts)
case_goes_on = trail_goes_on kind_of (Is Comma) IsCase (is_at Comma) case_at (number_of Comma ∷ []) names (number_of Equals ∷ []) (is_reads Comma) case_reads refl

pub case_fails : (e : Stop) (front : List CaseNode) (ts us : List Terminal) (y : Terminal) (whole : Read Code Terminal (List CaseNode)) → starts kind_of (number_of Comma ∷ []) ts ≡ true → is_at Comma ts ≡ Ok (y, us) → starts kind_of names us ≡ true → Fails e (case_at us)
    → after_front front tail_at ts ≡ whole → Fails e whole
case_fails stops.Memory front ts us y whole begun was begun2 was2 so_far = tt
case_fails (stops.Fault c n) front ts us y whole begun was begun2 was2 so_far = trail_fails kind_of (Is Comma) IsCase (is_at Comma) case_at (number_of Comma ∷ []) names (number_of Equals ∷ []) (is_reads Comma) case_reads refl front ts us y (c, n) whole begun was begun2 was2 so_far

pub case_last : (front : List CaseNode) (ts us : List Terminal) (y : Terminal) (whole : Read Code Terminal (List CaseNode)) → starts kind_of (number_of Comma ∷ []) ts ≡ true → is_at Comma ts ≡ Ok (y, us) → starts kind_of names us ≡ false
    → after_front front tail_at ts ≡ whole → whole ≡ Ok (front, us)
case_last = trail_last kind_of (Is Comma) IsCase (is_at Comma) case_at (number_of Comma ∷ []) names (number_of Equals ∷ []) (is_reads Comma) case_reads refl

pub case_ends : (front : List CaseNode) (ts : List Terminal) (whole : Read Code Terminal (List CaseNode)) → starts kind_of (number_of Comma ∷ []) ts ≡ false → after_front front tail_at ts ≡ whole → whole ≡ Ok (front, ts)
case_ends = trail_ends kind_of (Is Comma) IsCase (is_at Comma) case_at (number_of Comma ∷ []) names (number_of Equals ∷ []) (is_reads Comma) case_reads refl
