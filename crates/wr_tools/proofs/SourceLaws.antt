-- The full types of sources of which nothing is broken are what an image can state.
use Rattle.std.proofs.Common.{ℕ, zero, suc, ◌+◌, List, [], ◌∷◌, arith}
use Rattle.std.specs.List.{All}
use Rattle.declared_names.specs.Worded.{IsWorded}
use Rattle.declared_names.proofs.Full.{none_declared}
use Rattle.declared_names.proofs.Worded.{reads_worded}
use Rattle.midl_names.specs.Items.{Source}
use Rattle.midl_tree.specs.Trees.{SourceTree}
use Rattle.place_laws.proofs.AllMoves.{clear_anywhere, plain_fits}
use Rattle.proper_sources.specs.Spelled.{IsSpelled}
use Rattle.proper_sources.proofs.Proper.{sources_proper}
use Rattle.proper_sources.proofs.Reading.{reads_spelled}
use Rattle.source_set.specs.Events.{Begins}
use Rattle.source_set.specs.Found.{Read}
use Rattle.stated_sources.proofs.Owners.{sources_stated}
use Rattle.winmd_write.specs.Writable.{Writable}
use Rattle.writable_sets.specs.Stated.{NoGuid}
use Rattle.writable_sets.proofs.Writing.{each_fits, few_accepted, small_accepted, guid_free}
use Rattle.wr_base.specs.Places.{plain_from}
use Rattle.wr_rules.specs.Accepted.{Accepted}
use Rattle.wr_tools.specs.Made.{Made}
use Rattle.wr_tools.specs.Sets.{sources_from, sources_of}

each_from : (P : SourceTree → Type 0) (n : ℕ) (reads : List Read) → All (λ (r : Read). P r.tree) reads → All (λ (s : Source). P s.tree) (sources_from n reads)
each_from P n [] h k d l = absurd (omega (arith, l))
each_from P n (r ∷ rs) h zero d l = h zero r (omega arith)
each_from P n (r ∷ rs) h (suc k) d l = each_from P (n + 1) rs (λ j e m. h (suc j) e (omega (arith, m))) k d (omega (arith, l))

module _ (words : List (List ℕ)) (reads : List Read) (begins : Begins words reads) (bytes : List ℕ) (made : Made (sources_of reads) bytes) where
  accepted : Accepted made.made.types
  accepted = record {
    proper = sources_proper (sources_of reads) made.made.types made.made.sound.places (each_from IsSpelled 0 reads (reads_spelled words reads begins)) made.named made.applied made.made.sound.has.full;
    clear = clear_anywhere made.made.types made.made.sound.places (plain_from 0 made.made.types) made.made.fits (plain_fits 0 made.made.types) made.made.sound.kept;
  }

  free : NoGuid made.made.types
  free = guid_free made.made.types accepted (none_declared (sources_of reads) made.made.types made.made.sound.places (each_from IsWorded 0 reads (reads_worded words reads begins)) made.made.sound.has.full)

  pub writable : Writable made.made.types
  writable = record {
    each = each_fits made.made.types accepted (sources_stated (sources_of reads) made.made.types made.made.sound.places made.pathed made.made.sound.has.full made.made.widths) free;
    few = few_accepted made.made.types accepted;
    small = small_accepted made.made.types accepted;
  }
