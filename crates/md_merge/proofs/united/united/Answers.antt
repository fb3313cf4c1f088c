use Rattle.std.proofs.Common.{◌<◌, ◌^◌, List, subst, sym, ◌∙◌}
use Rattle.std.specs.List.{All}
use Rattle.std.proofs.lemmas.Result.{err_from_is_err_and}
use Rattle.wr_base.specs.Declarations.{IsInOrder}
use Rattle.wr_base.specs.Places.{total}
use Rattle.wr_base.specs.declared.declaration.Declaration.{Declaration}
use Rattle.md_merge.specs.Neighbours.{ListAgrees, ListDiffers}
use Rattle.md_merge.specs.Unions.{IsNormal, IsUnion, OnRefused}
use Rattle.md_merge.proofs.UnionLaws.{in_order, union_of, small, all_firsts, refused_of}
use Rattle.md_merge.proofs.united.united.Goals as goal

pub returns-in_err-check_apart-clause-refused : goal.returns-in_err-check_apart-clause-refused
returns-in_err-check_apart-clause-refused c =
    let p = err_from_is_err_and c.from_residual-in_err-check_apart.result c.from_residual-in_err-check_apart.ensures.1 in
    rw (p.1, p.2) (refused_of c.args.sets.now c.in_ok-list.list.items c.in_err-check_apart.field-0.0 c.in_ok-list.ensures.permutation c.in_ok-list.ensures.sorted
    (subst (λ (xs : List Declaration). OnRefused (ListDiffers xs) c.in_err-check_apart.field-0.0) c.as_slice.ensures.value c.in_err-check_apart.ensures.refused))

pub types_of-requires-clause-order : goal.types_of-requires-clause-order
types_of-requires-clause-order c =
    subst IsInOrder (sym c.in_ok-kept.ensures) (in_order c.args.sets.now c.in_ok-list.list.items c.in_ok-list.ensures.permutation c.in_ok-list.ensures.sorted c.requires.few)

pub types_of-requires-clause-normal : goal.types_of-requires-clause-normal
types_of-requires-clause-normal c =
    subst (All IsNormal) (sym c.in_ok-kept.ensures) (all_firsts IsNormal c.args.sets.now c.in_ok-list.list.items c.in_ok-list.ensures.permutation c.requires.normal)

pub returns-clause-ok : goal.returns-clause-ok
returns-clause-ok c =
    subst (IsUnion c.args.sets.now) (sym (c.in_ok-types_of.ensures ∙ c.in_ok-kept.ensures))
    (union_of c.args.sets.now c.in_ok-list.list.items c.in_ok-list.ensures.permutation c.in_ok-list.ensures.sorted
    (subst ListAgrees c.as_slice.ensures.value c.in_ok-check_apart.ensures.ok) c.requires.few)

pub returns-clause-small : goal.returns-clause-small
returns-clause-small c =
    subst (λ (ds : List Declaration). total ds < 2 ^ 32) (sym (c.in_ok-types_of.ensures ∙ c.in_ok-kept.ensures))
    (small c.args.sets.now c.in_ok-list.list.items c.in_ok-list.ensures.permutation c.requires.few)
