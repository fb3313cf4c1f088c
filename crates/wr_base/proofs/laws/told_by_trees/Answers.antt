use Rattle.wr_base.proofs.TreeLaws.{use_back, tree_back, text_of-tree_of, decl_back, decl_tree_back}
use Rattle.wr_base.proofs.laws.told_by_trees.Goals as goal

pub returns-clause-uses : goal.returns-clause-uses
returns-clause-uses c = use_back

pub returns-clause-use_trees : goal.returns-clause-use_trees
returns-clause-use_trees c = tree_back

pub returns-clause-texts : goal.returns-clause-texts
returns-clause-texts c = text_of-tree_of

pub returns-clause-declarations : goal.returns-clause-declarations
returns-clause-declarations c = decl_back

pub returns-clause-decl_trees : goal.returns-clause-decl_trees
returns-clause-decl_trees c = decl_tree_back
