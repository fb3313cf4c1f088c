-- Sources that are the trees of files.
use Rattle.std.specs.Prelude.{◌<◌, ◌^◌, List, length}
use Rattle.std.specs.List.{All}
use Rattle.midl_tree.specs.declared.terminal.Terminal.{Terminal}
use Rattle.midl_tree.specs.Trees.{SourceTree}
use Rattle.midl_parse.specs.Files.{IsSource}
use Rattle.midl_names.specs.Items.{Source}

-- some tokens, fewer than 2^64, spell the tree
pub record IsSpelled (tree : SourceTree) : Type 0 where
  pub tokens : List Terminal
  pub spells : IsSource tokens tree
  pub few : length tokens < 2 ^ 64

-- the tree of each source is spelled
abbrev pub AreSpelled : List Source → Type 0
AreSpelled = All (λ (s : Source). IsSpelled s.tree)
