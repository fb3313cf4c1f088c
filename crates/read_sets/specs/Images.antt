-- Sets that images state.
use Rattle.std.specs.Prelude.{◌≡◌, ℕ, List, Ok, map}
use Rattle.winmd_strict.specs.Reading.{TypesOf}
use Rattle.wr_base.specs.Trees.{decl_tree}
use Rattle.wr_base.specs.declared.declaration.Declaration.{Declaration}

-- there is an image that states this set, whoever wrote it
abbrev pub IsImageSet : List Declaration → Type 0
IsImageSet types = (bytes : List ℕ) × (TypesOf bytes ≡ Ok (map decl_tree types))
