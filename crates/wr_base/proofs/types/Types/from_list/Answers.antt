use Rattle.std.proofs.Common.{◌∙◌, List, map, length, ap, subst, rules, arith}
use Rattle.std.proofs.lemmas.List.{length-map}
use Rattle.std.proofs.lemmas.List.Sorted.{length_permutation}
use Rattle.std.specs.List.{AllAdjacentBelow}
use Rattle.std.specs.List.Sorted.{IsPermutation}
use Rattle.wr_base.specs.Declarations.{name_of, Precedes}
use Rattle.wr_base.specs.Normal.{normal}
use Rattle.wr_base.specs.declared.declaration.Declaration.{Declaration}
use Rattle.wr_base.proofs.TwiceLemmas.{least_twice, least_before, once_before}
use Rattle.wr_base.proofs.OrderLaws.{stay_in_order}
use Rattle.wr_base.proofs.types.Types.from_list.Goals as goal

pub table_of-requires : goal.table_of-requires
table_of-requires c = record {
  rises = search rules;
  short = omega (arith, length_permutation _ _ c.sort_by_name.ensures.permutation, ap length c.in-Ok.ensures, length-map c.args.list.items normal);
}

pub returns-in-Ok-table_of-clause-exact : goal.returns-in-Ok-table_of-clause-exact
returns-in-Ok-table_of-clause-exact c =
    let sorted : List Declaration = c.sort_by_name.new.list.items in
    let moved : IsPermutation (map normal c.args.list.items) sorted =
    subst (λ (xs : List Declaration). IsPermutation xs sorted) c.in-Ok.ensures c.sort_by_name.ensures.permutation in
    let rises : AllAdjacentBelow Precedes sorted (length sorted) = search rules in
    λ h. c.in-Ok-table_of.ensures ∙ stay_in_order c.args.list.items sorted moved rises h

pub returns-in-Ok-table_of-clause-once : goal.returns-in-Ok-table_of-clause-once
returns-in-Ok-table_of-clause-once c =
    let sorted : List Declaration = c.sort_by_name.new.list.items in
    let moved : IsPermutation (map normal c.args.list.items) sorted =
    subst (λ (xs : List Declaration). IsPermutation xs sorted) c.in-Ok.ensures c.sort_by_name.ensures.permutation in
    let rises : AllAdjacentBelow Precedes sorted (length sorted) = search rules in
    once_before c.args.list.items sorted moved rises

pub returns-in-Ok-clone-clause-refused : goal.returns-in-Ok-clone-clause-refused
returns-in-Ok-clone-clause-refused c =
    let moved : IsPermutation (map normal c.args.list.items) c.sort_by_name.new.list.items =
    subst (λ (xs : List Declaration). IsPermutation xs c.sort_by_name.new.list.items) c.in-Ok.ensures c.sort_by_name.ensures.permutation in
    least_before c.args.list.items c.in-Ok-clone.name
    (least_twice (map normal c.args.list.items) c.sort_by_name.new.list.items c.deref.result.now c.in-Some.at c.in-Ok-clone.name c.index.result.now
    moved c.deref.ensures.value c.in_default.ensures.sorted c.in-Some.ensures.some
    (c.in-Ok-clone.ensures.cases ∙ c.name.ensures ∙ ap name_of c.index.ensures))
