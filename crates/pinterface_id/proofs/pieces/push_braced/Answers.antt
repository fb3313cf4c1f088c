use Rattle.std.proofs.Common.{◌++◌, ◌∷◌, [], ap, ◌∙◌, string_bytes}
use Rattle.uuid.specs.Text.{hyphenated_text, lower}
use Rattle.pinterface_id.proofs.PieceLaws.{three_texts}
use Rattle.pinterface_id.proofs.pieces.push_braced.Goals as goal

pub returns : goal.returns
returns c =
    three_texts (string_bytes c.args.text.now) (123 ∷ []) _ (125 ∷ []) _ _ _ c.in_ok-push_str.ensures.bytes
    (c.in_ok-push_str-2.ensures.bytes ∙ ap (λ t. string_bytes c.push_str.new.self ++ t) (c.encode_lower.ensures.text ∙ ap (hyphenated_text lower) (c.hyphenated.ensures ∙ c.from_u128.ensures))) c.in_ok-push_str-3.ensures.bytes
