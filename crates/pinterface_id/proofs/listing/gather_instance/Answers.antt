use Rattle.std.proofs.Common.{sym, ap, ◌∙◌}
use Rattle.std.specs.HashSet.{contains_text}
use Rattle.wr_base.specs.Trees.{tree_of, text_of_tree}
use Rattle.wr_base.proofs.TreeLaws.{text_of-tree_of}
use Rattle.wr_rules.specs.Signatures.{id_of}
use Rattle.pinterface_id.proofs.Gatherings.{gathers_there, gathers_known}
use Rattle.pinterface_id.proofs.listing.gather_instance.Goals as goal

pub returns-then-knows : goal.returns-then-knows
returns-then-knows c =
    gathers_known c.args.gathered.now (text_of_tree (tree_of c.args.ty.now)) (id_of c.args.types.now (tree_of c.args.ty.now))
    (ap (contains_text c.args.gathered.now.known) (text_of-tree_of c.args.ty.now ∙ sym c.in_ok-text.ensures ∙ sym c.as_str.ensures.value) ∙ sym c.knows.ensures ∙ c.if-knows.true)

pub returns : goal.returns
returns c =
    gathers_there c.put.result (id_of c.args.types.now (tree_of c.args.ty.now)) (text_of_tree (tree_of c.args.ty.now)) c.as_str-in-Some.result.now c.in-Some.id c.args.gathered.now c.put.new.self
    (sym c.in_ok-find_id.ensures ∙ c.in-Some.is) (text_of-tree_of c.args.ty.now ∙ sym c.in_ok-text.ensures ∙ sym c.as_str-in-Some.ensures.value) c.put.ensures
