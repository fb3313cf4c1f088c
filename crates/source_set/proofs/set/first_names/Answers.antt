use Rattle.std.proofs.Common.{◌≡◌, List, ℕ, ◌∷◌, [], ◌++◌, ◌+◌, ◌∙◌, take, map, string_bytes, sym, ap}
use Rattle.std.proofs.lemmas.List.{take_more, map-append}
use Rattle.source_set.specs.Found.{with_name, once, first_names}
use Rattle.source_set.proofs.NameLemmas.{first_pushed}
use Rattle.source_set.proofs.set.first_names.Goals as goal

pub loop-word-preserved : goal.loop-word-preserved
loop-word-preserved c =
    let before : List (List ℕ) = map string_bytes (take c.loop-word.word-index c.args.words.now) in
    let word : List ℕ = string_bytes c.word-item.result in
    let more : map string_bytes (take (c.loop-word.word-index + 1) c.args.words.now) ≡ before ++ word ∷ [] =
    ap (map string_bytes) (take_more c.args.words.now c.loop-word.word-index c.word-item.result c.loop-word-test.true
    ∙ ap (λ w. take c.loop-word.word-index c.args.words.now ++ w ∷ []) (sym c.word-item.is))
    ∙ map-append string_bytes (take c.loop-word.word-index c.args.words.now) (c.word-item.result ∷ []) in
    c.in_ok-add.ensures ∙ ap (λ w. first_names (with_name c.loop-word.names w)) (c.in_ok-from_str.ensures.ok ∙ c.as_str.ensures.value)
    ∙ ap (λ t. first_names (with_name t word)) c.loop-word.invariant
    ∙ first_pushed 257 before word ∙ ap (λ t. first_names (once t)) (sym more)
