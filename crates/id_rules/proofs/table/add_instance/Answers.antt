use Rattle.std.proofs.Common.{ℕ, List, Some, sym, ap, ◌∷◌, [], ◌∙◌, string_bytes}
use Rattle.std.specs.Map.{update}
use Rattle.std.specs.Str.{bytes_eq}
use Rattle.std.specs.String.{string_eq}
use Rattle.std.specs.Option.{is_some}
use Rattle.std.specs.HashMap.{Updates, get_by_text}
use Rattle.std.proofs.lemmas.Map.Text.{hash_map_updates_text}
use Rattle.wr_base.specs.Trees.{tree_of}
use Rattle.wr_base.proofs.TreeLaws.{text_of-tree_of}
use Rattle.id_rules.specs.Table.{Adds}
use Rattle.id_rules.proofs.TableLaws.{on_ok_then, adds_known, adds_new}
use Rattle.id_rules.proofs.table.add_instance.Goals as goal

pub returns-then-knows : goal.returns-then-knows
returns-then-knows c =
    adds_known c.args.types.now (tree_of c.args.ty.now) (get_by_text c.args.table.now)
    (ap (λ t. is_some (get_by_text c.args.table.now t)) (text_of-tree_of c.args.ty.now ∙ sym c.in_ok-text.ensures ∙ sym c.as_str.ensures.value) ∙ sym c.knows.ensures ∙ c.if-knows.true)

pub returns : goal.returns
returns c =
    let key = text_of-tree_of c.args.ty.now ∙ sym c.in_ok-text.ensures in
    on_ok_then (Updates string_eq c.args.table.now c.put.new.table c.in_ok-text.text (Some c.in_ok-id.id)) (Adds c.args.types.now (tree_of c.args.ty.now ∷ []) (get_by_text c.args.table.now) (get_by_text c.put.new.table))
    (λ u. adds_new c.args.types.now (tree_of c.args.ty.now) (get_by_text c.args.table.now) (get_by_text c.put.new.table) c.in_ok-id.id
    (ap (λ t. is_some (get_by_text c.args.table.now t)) (key ∙ sym c.as_str.ensures.value) ∙ sym c.knows.ensures ∙ c.if-knows.false)
    c.in_ok-id.ensures
    (λ q. hash_map_updates_text (string_bytes c.in_ok-text.text) c.args.table.now c.put.new.table (Some c.in_ok-id.id) u q
    ∙ ap (λ (t : List ℕ). update bytes_eq (get_by_text c.args.table.now) t (Some c.in_ok-id.id) q) (sym key)))
    c.put.result c.put.ensures
