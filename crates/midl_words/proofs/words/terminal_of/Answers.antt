use Rattle.std.proofs.Common.{ap, ◌∙◌}
use Rattle.midl_lex.specs.declared.token.TokenKind.{TokenKind}
use Rattle.midl_words.specs.Words.{kind_by, text_by}
use Rattle.midl_words.proofs.FromLexing.{piece_ascii, lexed_as}
use Rattle.midl_words.proofs.words.terminal_of.Goals as goal

pub text_by-requires : goal.text_by-requires
text_by-requires c = rw c.text-text.ensures.value (piece_ascii c.args.token.now c.text-text.ensures.fits)

pub new-requires : goal.new-requires
new-requires c =
    lexed_as c.args.token.now _ _ _ c.text-text.ensures.fits c.offset.ensures
    (c.kind_by-word.ensures ∙ ap (λ (k : TokenKind). kind_by k c.text-text.result.now) c.kind-kind.ensures ∙ ap (kind_by c.args.token.now.kind) c.text-text.ensures.value)
    (c.in_ok-spelling.ensures ∙ ap (λ (k : TokenKind). text_by k c.text-text.result.now) c.kind-kind.ensures ∙ ap (text_by c.args.token.now.kind) c.text-text.ensures.value)
