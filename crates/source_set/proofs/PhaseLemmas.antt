-- The first fault of a file, from what lexing and parsing answer.
use Rattle.std.proofs.Common.{◌≡◌, ℕ, List, Some, None, Result, Ok, Err, IfErr, sym, subst, ◌∙◌}
use Rattle.ranked.specs.Entries.{Entry, earlier_of}
use Rattle.ranked.specs.First.{IsFirst, Where, Clear}
use Rattle.ranked.specs.declared.stop.Stop.{Stop}
use Rattle.ranked.specs.declared.stop.Stop.TheVariants.{Refused, Memory}
use Rattle.ranked.proofs.FirstLaws.{union, where_yes, where_no}
use Rattle.midl_lex.specs.declared.fault.Fault.{Fault}
use Rattle.midl_lex.specs.Entries.{Lexical}
use Rattle.midl_lex.specs.Faults.{IsFault, FirstFault, RefusedFirst, entry}
use Rattle.midl_lex.specs.Laws.{IsOnly}
use Rattle.midl_lex.specs.Pieces.{Piece}
use Rattle.midl_lex.specs.Tokens.{Lexes}
use Rattle.midl_parse.specs.Entries.{Parsing, RefusedFirst as ParseRefused}
use Rattle.source_set.specs.Phases.{Unparsed, Faulty, RefusesFile}

-- a lexical fault that is first is that of the file
lexical_first : (number : ℕ) (bytes : List ℕ) (e : Entry) → IsFirst (Lexical number bytes) (Some e) → IsFirst (Faulty number bytes) (Some e)
unfolding IsFirst Clear earlier_of
lexical_first number bytes e f =
    union (Lexical number bytes) (Where (Clear (Lexical number bytes)) (Unparsed number bytes)) (Some e) None f
    (where_no (Clear (Lexical number bytes)) (Unparsed number bytes) (λ clear. clear e f.stands))

pub lex_refused : (number : ℕ) (bytes : List ℕ) (stop : Stop Entry)
    → ((offset : ℕ) (fault : Fault) → FirstFault bytes offset fault → IsFirst (Lexical number bytes) (Some (entry number offset fault)))
    → RefusedFirst number bytes stop → RefusesFile number bytes stop
lex_refused number bytes Memory law h = tt
lex_refused number bytes (Refused e) law (offset, fault, same, first) =
    subst (λ x. IsFirst (Faulty number bytes) (Some x)) (sym same) (lexical_first number bytes (entry number offset fault) (law offset fault first))

unparsed_first : (number : ℕ) (bytes : List ℕ) (pieces : List Piece) (e : Entry) → Lexes bytes pieces
    → ((other : List Piece) → Lexes bytes other → other ≡ pieces) → IsFirst (Parsing number pieces) (Some e) → IsFirst (Unparsed number bytes) (Some e)
unfolding IsFirst Unparsed
unparsed_first number bytes pieces e lexes only f = record {
  stands = (pieces, lexes, f.stands);
  least = λ other u. f.least other (subst (λ p. Parsing number p other) (only u.0 u.1) u.2);
}

-- a fault of parsing that is first is that of the file, whose bytes have tokens
parse_first : (number : ℕ) (bytes : List ℕ) (pieces : List Piece) (e : Entry) → Lexes bytes pieces → IsFirst (Lexical number bytes) None
    → ((other : List Piece) → Lexes bytes other → other ≡ pieces) → IsFirst (Parsing number pieces) (Some e) → IsFirst (Faulty number bytes) (Some e)
unfolding IsFirst Clear earlier_of
parse_first number bytes pieces e lexes none only f =
    union (Lexical number bytes) (Where (Clear (Lexical number bytes)) (Unparsed number bytes)) None (Some e) none
    (where_yes (Clear (Lexical number bytes)) (Unparsed number bytes) (Some e) none (unparsed_first number bytes pieces e lexes only f))

-- the tokens are the only ones
pub only_pieces : (bytes : List ℕ) (pieces : List Piece)
    → (((offset : ℕ) (fault : Fault) → ¬ (IsFault bytes offset fault)) → (one : List Piece) × IsOnly bytes one)
    → ((offset : ℕ) (fault : Fault) (other : List Piece) → IsFault bytes offset fault → ¬ (Lexes bytes other))
    → Lexes bytes pieces → (other : List Piece) → Lexes bytes other → other ≡ pieces
only_pieces bytes pieces one none lexes other more =
    let found = one (λ offset fault is. none offset fault pieces is lexes) in
    found.1.only other more ∙ sym (found.1.only pieces lexes)

pub parse_refused : (number : ℕ) (bytes : List ℕ) (pieces : List Piece) (stop : Stop Entry) → Lexes bytes pieces → IsFirst (Lexical number bytes) None
    → ((other : List Piece) → Lexes bytes other → other ≡ pieces) → ParseRefused number pieces stop → RefusesFile number bytes stop
parse_refused number bytes pieces Memory lexes none only h = tt
parse_refused number bytes pieces (Refused e) lexes none only h = parse_first number bytes pieces e lexes none only h

pub parse_refuses : {A : Type 0} (number : ℕ) (bytes : List ℕ) (pieces : List Piece) (result : Result A (Stop Entry)) → Lexes bytes pieces
    → IsFirst (Lexical number bytes) None → ((other : List Piece) → Lexes bytes other → other ≡ pieces) → IfErr result (ParseRefused number pieces)
    → IfErr result (RefusesFile number bytes)
parse_refuses number bytes pieces (Ok x) lexes none only h = h
parse_refuses number bytes pieces (Err stop) lexes none only h = parse_refused number bytes pieces stop lexes none only h
