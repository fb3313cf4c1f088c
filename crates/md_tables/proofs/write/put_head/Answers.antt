use Rattle.std.proofs.Common.{◌∙◌, ℕ, List, [], ◌∷◌, ◌++◌, ap}
use Rattle.md_bytes.specs.Bytes.{le}
use Rattle.md_tables.proofs.PutLemmas.{head_group}
use Rattle.md_tables.proofs.write.put_head.Goals as goal

pub returns : goal.returns
returns c =
    c.in_ok-put_number-2.ensures
    ∙ ap (λ (x : List ℕ). x ++ le 8 0x000016003301FA00) (c.in_ok-put_number.ensures ∙ ap (λ (x : List ℕ). x ++ le 8 c.args.valid) c.in_ok-extend_from_slice.ensures.items)
    ∙ head_group c.args.out.now.items (0 ∷ 0 ∷ 0 ∷ 0 ∷ 2 ∷ 0 ∷ c.args.heaps ∷ 1 ∷ []) (le 8 c.args.valid) (le 8 0x000016003301FA00)
