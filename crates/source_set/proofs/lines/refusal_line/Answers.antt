use Rattle.std.proofs.Common.{◌≡◌, ◌==◌, string_bytes, ◌++◌, ◌+◌, ◌∷◌, [], List, ℕ, take, length, count_by, ◌∙◌, ap}
use Rattle.wr_base.specs.Codes.{code_name}
use Rattle.source_set.specs.Lines.{line_at, column_at, head_of, word_part}
use Rattle.wr_base.specs.Parts.{behind_last}
use Rattle.source_set.proofs.LineLemmas.{take_min}
use Rattle.source_set.proofs.lines.refusal_line.Goals as goal

pub returns : goal.returns
returns c =
    let name : List ℕ = c.args.name.now in
    let bytes : List ℕ = c.args.bytes.now in
    let offset : ℕ = c.args.refusal.now.offset in
    let word : c.as_str.result.now ≡ c.args.refusal.now.word = c.as_str.ensures ∙ ap (λ e. e.word) c.refusal.view_is in
    let cut : take c.min-offset.result bytes ≡ take offset bytes =
    ap (λ n. take n bytes) c.min-offset.ensures ∙ take_min bytes c.refusal.inside.place.offset
    ∙ ap (λ n. take n bytes) (ap (λ e. e.offset) c.refusal.view_is) in
    let line : c.position_behind-line.result.0 ≡ line_at bytes offset =
    c.position_behind-line.ensures.line ∙ ap (λ t. count_by (λ b. b == 10) t + 1) cut in
    let column : c.position_behind-line.result.1 ≡ column_at bytes offset =
    c.position_behind-line.ensures.column ∙ ap (λ t. length (behind_last 10 t) + 1) cut in
    let head : string_bytes c.in_ok-head.head ≡ head_of name (line_at bytes offset) (column_at bytes offset) (code_name c.refusal.inside.code) =
    c.in_ok-head.ensures ∙ ap (λ n. head_of name n c.position_behind-line.result.1 c.name.result.now) line
    ∙ ap (λ n. head_of name (line_at bytes offset) n c.name.result.now) column
    ∙ ap (head_of name (line_at bytes offset) (column_at bytes offset)) c.name.ensures in
    record {
      code = c.refusal.inside.code;
      ranked = ap (λ e. e.code) c.refusal.view_is;
      is =
          c.in_ok-push_str.ensures.bytes
          ∙ ap (λ t. t ++ 10 ∷ [])
          (c.in_ok-text.ensures ∙ ap (λ t. t ++ word_part c.as_str.result.now) head
          ∙ ap (λ w. head_of name (line_at bytes offset) (column_at bytes offset) (code_name c.refusal.inside.code) ++ word_part w) word);
    }
