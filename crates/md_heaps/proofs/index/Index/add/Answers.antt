use Rattle.std.proofs.Common.{◌≡◌, ◌<◌, [], ◌∷◌, None, length, map, get_or, sym, ap, ◌∙◌, arith}
use Rattle.std.specs.Prelude.{bytes_eq}
use Rattle.std.specs.FinMap.{get, insert}
use Rattle.std.specs.Map.{lookup}
use Rattle.std.proofs.lemmas.List.{map-append}
use Rattle.indexmap.proofs.CallerLemmas.{insert_entry-new}
use Rattle.md_heaps.specs.Heaps.{Indices}
use Rattle.md_heaps.specs.Index.{table_of}
use Rattle.md_heaps.proofs.IndexLaws.{lookup-map, get-indices_of-map, indices_of-set, indices_of-set_same, OnErr-any}
use Rattle.md_heaps.proofs.index.Index.add.Goals as goal

pub returns-in_err-insert-clause-unchanged : goal.returns-in_err-insert-clause-unchanged
returns-in_err-insert-clause-unchanged c =
    let same = ap (map (λ e. (e.0.bytes.items, e.1))) c.in_err-insert.ensures.err in
    OnErr-any c.from_residual.result (indices_of-set_same (λ t. map (λ e. (e.0.bytes.items, e.1)) t.entries) c.self.inside.tables c.table_of.result c.index-self-table_of.result _ same
    ∙ c.self.view_is)

pub returns-clause-added : goal.returns-clause-added
returns-clause-added c =
    let within : c.table_of.result < length c.self.inside.tables = omega (arith, c.table_of.ensures.within, c.self.invariant) in
    let default = c.index-self-table_of.result in
    let old = get_or c.self.inside.tables c.table_of.result default in
    let here = c.table_of.ensures.number ∙ ap (λ b. table_of b) c.as_slice.ensures.value in
    let none =
    sym (get-indices_of-map (λ t. map (λ e. (e.0.bytes.items, e.1)) t.entries) c.self.inside.tables c.args.bytes.items c.table_of.result default here within)
    ∙ ap (λ (i : Indices). get i c.args.bytes.items) c.self.view_is ∙ c.requires in
    let absent : lookup (λ k. bytes_eq c.args.bytes.items k.bytes.items) old.entries ≡ None = sym (lookup-map (λ k. k.bytes.items) (bytes_eq c.args.bytes.items) old.entries) ∙ none in
    let put = c.in_ok-insert.ensures.entries ∙ insert_entry-new _ old (record { bytes = c.args.bytes }) c.args.number absent in
    let added = ap (map (λ e. (e.0.bytes.items, e.1))) put ∙ map-append (λ e. (e.0.bytes.items, e.1)) old.entries ((record { bytes = c.args.bytes }, c.args.number) ∷ []) in
    indices_of-set (λ t. map (λ e. (e.0.bytes.items, e.1)) t.entries) c.self.inside.tables c.args.bytes.items c.args.number c.table_of.result default _ here within none added
    ∙ ap (λ (i : Indices). insert i c.args.bytes.items c.args.number) c.self.view_is
