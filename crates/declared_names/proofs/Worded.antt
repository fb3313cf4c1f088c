-- Files that were read have worded trees.
use Rattle.std.proofs.Common.{ℕ, List}
use Rattle.std.specs.List.{All}
use Rattle.std.proofs.lemmas.Option.{slice_get-get_or}
use Rattle.midl_tree.specs.Trees.{SourceTree}
use Rattle.source_set.specs.Events.{Begins}
use Rattle.source_set.specs.Found.{Read}
use Rattle.source_set.specs.Phases.{HasTree}
use Rattle.declared_names.specs.Worded.{IsWorded}

pub tree_worded : (bytes : List ℕ) (tree : SourceTree) → HasTree bytes tree → IsWorded tree
tree_worded bytes tree h = record { pieces = h.pieces; spells = h.spells }

pub reads_worded : (words : List (List ℕ)) (reads : List Read) → Begins words reads → All (λ (r : Read). IsWorded r.tree) reads
reads_worded words reads h k d l = tree_worded _ _ (h.each k _ (slice_get-get_or reads k d l)).tree
