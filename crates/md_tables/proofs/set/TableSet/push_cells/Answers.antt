use Rattle.std.proofs.Common.{◌≡◌, ◌∙◌, ℕ, ◌<◌, cond, eqb, List, [], ◌∷◌, ◌++◌, length, get_or, Result, Ok, Err, ap, sym, arith}
use Rattle.std.specs.Prelude.{OnErr}
use Rattle.md_schema.specs.Schema.{place_of}
use Rattle.md_tables.specs.Lists.{cells_in, lists_in}
use Rattle.md_tables.proofs.ListLemmas.{cells_push, length-lists, list_at, lists_set, row_added, row_kept}
use Rattle.md_tables.proofs.set.TableSet.push_cells.Goals as goal

on_err : {T E : Type 0} (r : Result T E) (P : Type 0) → P → OnErr r P
on_err (Ok x) P p = tt
on_err (Err e) P p = p

pub returns-in_err-push-clause-unchanged : goal.returns-in_err-push-clause-unchanged
returns-in_err-push-clause-unchanged c =
    on_err c.from_residual.result _ (λ i. λ other. (
    let all : length c.args.self.now.tables.items ≡ 38 = c.args.self.now.all in
    let lt : c.place.result < length c.args.self.now.tables.items = omega (arith, all, c.place.ensures.small) in
    let lt_lists : c.place.result < length (lists_in c.args.self.now.tables.items) = omega (arith, lt, length-lists c.args.self.now.tables.items) in
    let was = list_at c.args.self.now.tables.items c.place.result c.index_mut.result.now lt c.index_mut.ensures.value in
    ap (λ (xs : List (List (List ℕ))). get_or xs (place_of other) []) (lists_set c.args.self.now.tables.items c.place.result c.push.new.self)
    ∙ row_kept (lists_in c.args.self.now.tables.items) c.place.result (place_of other) (cells_in c.push.new.self.items) lt_lists (ap cells_in c.in_err-push.ensures.items ∙ sym was)) i)

pub returns-clause-added : goal.returns-clause-added
returns-clause-added c = λ i. λ other. (
    let all : length c.args.self.now.tables.items ≡ 38 = c.args.self.now.all in
    let lt : c.place.result < length c.args.self.now.tables.items = omega (arith, all, c.place.ensures.small) in
    let lt_lists : c.place.result < length (lists_in c.args.self.now.tables.items) = omega (arith, lt, length-lists c.args.self.now.tables.items) in
    let was = list_at c.args.self.now.tables.items c.place.result c.index_mut.result.now lt c.index_mut.ensures.value in
    let added : cells_in c.push.new.self.items ≡ get_or (lists_in c.args.self.now.tables.items) c.place.result [] ++ c.args.cells.items ∷ [] =
    ap cells_in c.in_ok-push.ensures.items ∙ cells_push c.index_mut.result.now.items c.args.cells
    ∙ ap (λ (rows : List (List ℕ)). rows ++ c.args.cells.items ∷ []) (sym was) in
    let old : List (List ℕ) = get_or (lists_in c.args.self.now.tables.items) (place_of other) [] in
    ap (λ (xs : List (List (List ℕ))). get_or xs (place_of other) []) (lists_set c.args.self.now.tables.items c.place.result c.push.new.self)
    ∙ row_added (lists_in c.args.self.now.tables.items) c.place.result (place_of other) c.args.cells.items (cells_in c.push.new.self.items) lt_lists added
    ∙ ap (λ (k : ℕ). cond (eqb (place_of other) k) (old ++ c.args.cells.items ∷ []) old) c.place.ensures.value) i
