use Rattle.std.proofs.Common.{List, subst, sym}
use Rattle.midl_lex.specs.Pieces.{Piece}
use Rattle.midl_lex.specs.Tokens.{Lexes}
use Rattle.source_set.proofs.PhaseLemmas.{lex_refused, parse_refuses, only_pieces}
use Rattle.source_set.proofs.reading.tree_of.Goals as goal

pub returns-in-Ok-clause-refused : goal.returns-in-Ok-clause-refused
returns-in-Ok-clause-refused c =
    let pieces : List Piece = c.deref.result.now in
    let lexes : Lexes c.args.bytes.now pieces = subst (Lexes c.args.bytes.now) (sym c.deref.ensures.value) c.in-Ok.ensures.ok in
    parse_refuses c.args.number c.args.bytes.now pieces c.parse.result lexes (c.fault_is_first_entry.ensures.none pieces lexes)
    (only_pieces c.args.bytes.now pieces c.tokens_or_fault.ensures.one c.tokens_or_fault.ensures.none lexes) c.parse.ensures.refused

pub returns-in-Err-clause-refused : goal.returns-in-Err-clause-refused
returns-in-Err-clause-refused c = lex_refused c.args.number c.args.bytes.now c.in-Err.stop c.fault_is_first_entry.ensures.fault c.in-Err.ensures.refused
