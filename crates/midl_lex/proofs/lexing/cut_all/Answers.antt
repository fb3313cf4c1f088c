use Rattle.std.proofs.Common.{◌≡◌, ℕ, ◌+◌, List, ◌++◌, length, sym, ap, subst, ◌∙◌, arith}
use Rattle.std.proofs.lemmas.Bool.{eqb-true}
use Rattle.midl_lex.specs.Pieces.{Piece}
use Rattle.midl_lex.specs.Tokens.{token_if}
use Rattle.midl_lex.proofs.Cutting.{SoFar}
use Rattle.midl_lex.proofs.Steps.{front_is, front_fits}
use Rattle.midl_lex.proofs.Firsts.{at_end, step, some_left, refused_here}
use Rattle.midl_lex.proofs.lexing.cut_all.Goals as goal

pub more-preserved : goal.more-preserved
more-preserved c =
    let s = step c.args.bytes.now c.more.rest.now c.more.found.items c.more.offset c.in-Ok.kind c.in-Ok.len c.more.invariant.so_far c.more.invariant.rest c.more.invariant.total c.in-Ok.ensures.value in
    let new = c.in_ok-found-in-Ok.ensures ∙ ap (λ (u : List ℕ). c.more.found.items ++ token_if c.more.offset c.in-Ok.kind u) c.split_at.ensures.front in
    record {
      so_far = subst (λ (ps : List Piece). SoFar c.args.bytes.now ps (c.more.offset + c.in-Ok.len)) (sym new) s.so_far;
      rest = c.split_at.ensures.back ∙ s.rest_is;
      total = ap (λ (u : List ℕ). c.more.offset + c.in-Ok.len + length u) c.split_at.ensures.back ∙ s.total;
    }

pub more-smaller : goal.more-smaller
more-smaller c =
    let s = step c.args.bytes.now c.more.rest.now c.more.found.items c.more.offset c.in-Ok.kind c.in-Ok.len c.more.invariant.so_far c.more.invariant.rest c.more.invariant.total c.in-Ok.ensures.value in
    omega (arith, s.some, s.within, c.split_at.ensures.back_len)

pub returns-in-Err-clause-refused : goal.returns-in-Err-clause-refused
returns-in-Err-clause-refused c =
    (c.more.offset, c.in-Err.fault, c.refusal.ensures, refused_here c.args.bytes.now c.more.rest.now c.more.found.items c.more.offset c.in-Err.fault c.requires.utf8 c.more.invariant.so_far c.more.invariant.rest c.more.invariant.total (some_left (length c.more.rest.now) (sym c.more-test.ensures)) c.in-Err.ensures.value)

pub returns-clause-ok : goal.returns-clause-ok
returns-clause-ok c =
    let z : length c.more.rest.now ≡ 0 = eqb-true (length c.more.rest.now) 0 (sym c.more-test.ensures) in
    at_end c.args.bytes.now c.more.found.items c.more.offset c.requires.utf8 c.more.invariant.so_far (omega (arith, z, c.more.invariant.total))

pub with_lexeme-requires-clause-is : goal.with_lexeme-requires-clause-is
with_lexeme-requires-clause-is c = front_is c.more.rest.now _ c.in-Ok.kind c.in-Ok.len c.in-Ok.ensures.value c.split_at.ensures.front

pub with_lexeme-requires-clause-fits : goal.with_lexeme-requires-clause-fits
with_lexeme-requires-clause-fits c = front_fits c.more.rest.now _ c.in-Ok.kind c.in-Ok.len c.in-Ok.ensures.value c.split_at.ensures.front
