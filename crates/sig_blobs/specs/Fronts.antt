-- What the code's front of a use is seen as.
use Rattle.sig_blobs.specs.declared.front.Front.{Front as CodeFront}
use Rattle.sig_blobs.specs.declared.front.Front.TheVariants as fronts
use Rattle.wr_base.specs.Trees.{tree_of}
use Rattle.sig_blobs.specs.Uses.{Front, alone, applied}

abbrev pub front_of : CodeFront → Front
front_of (fronts.Alone use_) = alone (tree_of use_)
front_of (fronts.Applied name count) = applied name count
