-- What files declare, one after the other.
use Rattle.std.proofs.Common.{◌≡◌, ℕ, List, ◌∷◌, ◌++◌, Option, map}
use Rattle.std.proofs.lemmas.List.{map-append}
use Rattle.midl_tree.specs.declared.nodes.File.{File}
use Rattle.midl_names.specs.declared.sort.Sort.{Sort}
use Rattle.midl_names.specs.Declares.{placed_of}
use Rattle.midl_names.specs.Items.{items_of_source, items_of}
use Rattle.midl_names.specs.Views.{source_of, sources_of}

-- a file in front of others
pub placed_more : (known : List ℕ → Option Sort) (file : File) (files : List File)
    → map (placed_of known) (items_of (sources_of (file ∷ files))) ≡ map (placed_of known) (items_of_source (source_of file)) ++ map (placed_of known) (items_of (sources_of files))
placed_more known file files = map-append (placed_of known) (items_of_source (source_of file)) (items_of (sources_of files))
