use Rattle.std.proofs.Common.{◌<◌, length, map, get_or, sym, ap, ◌∙◌, arith}
use Rattle.std.specs.Prelude.{bytes_eq}
use Rattle.std.specs.FinMap.{get}
use Rattle.md_heaps.specs.Heaps.{Indices}
use Rattle.md_heaps.proofs.IndexLaws.{lookup-map, get-indices_of-map}
use Rattle.md_heaps.proofs.index.Index.find.Goals as goal

pub returns : goal.returns
returns c =
    let within : c.table_of.result < length c.self.inside.tables = omega (arith, c.table_of.ensures.within, c.self.told) in
    let default = c.index-self-table_of.result in
    c.copied.ensures ∙ c.get.ensures.value ∙ sym (lookup-map (λ k. k.bytes.items) (bytes_eq c.args.content.now) (get_or c.self.inside.tables c.table_of.result default).entries)
    ∙ sym (get-indices_of-map (λ t. map (λ e. (e.0.bytes.items, e.1)) t.entries) c.self.inside.tables c.args.content.now c.table_of.result default c.table_of.ensures.number within)
    ∙ ap (λ (i : Indices). get i c.args.content.now) c.self.view_is
