use Rattle.std.proofs.Common.{sym, ◌∙◌}
use Rattle.wr_base.specs.Trees.{tree_of}
use Rattle.wr_base.proofs.TreeLaws.{text_of-tree_of}
use Rattle.id_clash.proofs.WalkLaws.{puts_one}
use Rattle.id_clash.proofs.texts.push_one.Goals as goal

pub returns : goal.returns
returns c = puts_one (tree_of c.args.ty.now) c.args.texts.now.items c.push.new.self.items c.in_ok-text.text (c.in_ok-text.ensures ∙ sym (text_of-tree_of c.args.ty.now)) c.in_ok-push.ensures.items
