use Rattle.std.proofs.Common.{rules, is_lt}
use Rattle.std.specs.Ordering.{nat_cmp}
use Rattle.std.specs.Cmp.Lexicographic.{slice_cmp, nat_list_cmp_total}
use Rattle.std.proofs.lemmas.List.Sorted.{ranks_by, answers_always}
use Rattle.winmd_names.specs.Texted.{text_key}
use Rattle.winmd_names.proofs.instance_rows.sort_by_text.Goals as goal

pub returns-clause-sorted : goal.returns-clause-sorted
returns-clause-sorted c =
    c.in_ok-sort_by.ensures.sorted (λ x y. is_lt (slice_cmp nat_cmp (text_key x) (text_key y)))
    (ranks_by nat_list_cmp_total text_key) (answers_always _ _ _ (λ f a r q k. search rules))

pub returns-clause-stable : goal.returns-clause-stable
returns-clause-stable c =
    c.in_ok-sort_by.ensures.stable (λ x y. is_lt (slice_cmp nat_cmp (text_key x) (text_key y)))
    (ranks_by nat_list_cmp_total text_key) (answers_always _ _ _ (λ f a r q k. search rules))
