use Rattle.std.proofs.Common.{◌∙◌, List, length, map, Contains, get_or, rules, subst, sym}
use Rattle.std.specs.Ordering.{nat_cmp}
use Rattle.std.specs.List.{AllAdjacentBelow}
use Rattle.std.specs.Cmp.Lexicographic.{slice_cmp, nat_list_cmp_total}
use Rattle.std.proofs.lemmas.Fn.{always_returns_same}
use Rattle.std.proofs.lemmas.List.Sorted.{searchable_from_sorted}
use Rattle.wr_base.specs.Ids.{id_text, IdPrecedes}
use Rattle.wr_base.specs.declared.ids.UseId.{UseId}
use Rattle.wr_base.proofs.TypesLemmas.{absent_from, sorted_from_rises}
use Rattle.wr_base.proofs.IdLemmas.{listed_at}
use Rattle.wr_base.proofs.ids.Ids.id.Goals as goal

pub returns-in-Ok-clause-found : goal.returns-in-Ok-clause-found
returns-in-Ok-clause-found c =
    let here = c.in-Ok.ensures.position (λ d. slice_cmp nat_cmp (id_text d) c.args.text.now) (always_returns_same _ _ _ (λ a r q k. (search rules, search rules))) in
    let P : List UseId → Type 0 = λ xs. Contains xs (record { text = c.args.text.now; id = (get_or c.as_slice-items.result.now c.in-Ok.at c.index-items-at.result).id }) in
    subst P (c.as_slice-items.ensures.value ∙ c.self.view_is)
    (listed_at c.as_slice-items.result.now c.in-Ok.at c.index-items-at.result c.args.text.now c.in-Ok.ensures.bound here)

pub returns-in-Err-clause-absent : goal.returns-in-Err-clause-absent
returns-in-Err-clause-absent c =
    let parts = c.in-Err.ensures.position (λ d. slice_cmp nat_cmp (id_text d) c.args.text.now) (always_returns_same _ _ _ (λ a r q k. (search rules, search rules))) in
    let Rises : List UseId → Type 0 = λ xs. AllAdjacentBelow IdPrecedes xs (length xs) in
    let rises : Rises c.as_slice-items.result.now = subst Rises (sym c.as_slice-items.ensures.value) c.self.invariant in
    let split = parts (searchable_from_sorted nat_list_cmp_total id_text c.as_slice-items.result.now c.args.text.now (sorted_from_rises id_text c.as_slice-items.result.now rises)) in
    let P : List UseId → Type 0 = λ xs. Contains (map id_text xs) c.args.text.now → ⊥ in
    subst P (c.as_slice-items.ensures.value ∙ c.self.view_is)
    (absent_from id_text c.as_slice-items.result.now c.in-Err.field-0 c.args.text.now split.0 split.1)
