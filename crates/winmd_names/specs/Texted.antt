-- Uses with their texts.
use Rattle.std.specs.Prelude.{ℕ, List, map, string_bytes}
use Rattle.wr_base.specs.Trees.{UseTree, tree_of}
use Rattle.winmd_names.specs.declared.texted.Texted.{Texted}

abbrev pub text_key : Texted → List ℕ
text_key t = string_bytes t.text

abbrev pub tree_in : Texted → UseTree
tree_in t = tree_of t.ty

abbrev pub trees_in : List Texted → List UseTree
trees_in ts = map tree_in ts
