-- Headers that are read one by one name what all of them together name.
use Rattle.std.proofs.Common.{◌≡◌, ℕ, suc, ◌+◌, ◌-◌, ◌<◌, Bool, true, false, List, [], ◌∷◌, Option, Some, None, Result, Ok, Err, cond, refl, sym, ap, ◌∙◌, arith}
use Rattle.std.specs.Prelude.{◌||◌, bytes_eq, codes}
use Rattle.std.specs.List.{list_any}
use Rattle.md_schema.specs.Streams.{Range}
use Rattle.md_schema.specs.declared.faults.ImageFault.{ImageFault}
use Rattle.winmd_image.specs.Faults.{◌>>=◌}
use Rattle.winmd_image.specs.Found.{Found, found_in, all_found}
use Rattle.winmd_image.specs.Noting.{first_of, noted, streams_found}
use Rattle.winmd_image.specs.Pe.{in_sections, held_at, or_further, root_of}
use Rattle.winmd_image.specs.Root.{Stream, named, header_at, behind_header, headers, stream_headers, streams_among, streams_of}

-- what is found behind so much
abbrev pub with_streams : Found → List Stream → Found
with_streams found [] = found
with_streams found (stream ∷ streams) = with_streams (noted found stream) streams

abbrev pub joined : Found → Result (List Stream) ImageFault → Result Found ImageFault
joined found (Ok streams) = Ok (with_streams found streams)
joined found (Err fault) = Err fault

or_else : Option Range → Option Range → Option Range
or_else (Some range) other = Some range
or_else None other = other

both : Found → Found → Found
both a b = record {
  tables = or_else a.tables b.tables;
  texts = or_else a.texts b.texts;
  users = or_else a.users b.users;
  guids = or_else a.guids b.guids;
  blobs = or_else a.blobs b.blobs;
  uncompressed = a.uncompressed || b.uncompressed;
}

either_or : (o further : Option Range) (b : Bool) (range : Range) → or_else (first_of o b range) further ≡ or_else o (cond b (Some range) further)
unfolding or_else
either_or (Some before) further b range = refl
either_or None further true range = refl
either_or None further false range = refl

or_more : (a b c : Bool) → ((a || b) || c) ≡ (a || (b || c))
or_more true b c = refl
or_more false b c = refl

with_both : (found : Found) (streams : List Stream) → with_streams found streams ≡ both found (found_in streams)
unfolding both or_else
with_both found [] = λ i. record {
  tables = nothing found.tables i;
  texts = nothing found.texts i;
  users = nothing found.users i;
  guids = nothing found.guids i;
  blobs = nothing found.blobs i;
  uncompressed = neither found.uncompressed i;
}
  where
    nothing : (o : Option Range) → o ≡ or_else o None
    nothing (Some range) = refl
    nothing None = refl

    neither : (b : Bool) → b ≡ (b || false)
    neither true = refl
    neither false = refl
with_both found (s ∷ streams) =
    let step : both (noted found s) (found_in streams) ≡ both found (found_in (s ∷ streams)) = λ i. record {
      tables = either_or found.tables (named (codes "#~") streams) (bytes_eq s.name (codes "#~")) s.range i;
      texts = either_or found.texts (named (codes "#Strings") streams) (bytes_eq s.name (codes "#Strings")) s.range i;
      users = either_or found.users (named (codes "#US") streams) (bytes_eq s.name (codes "#US")) s.range i;
      guids = either_or found.guids (named (codes "#GUID") streams) (bytes_eq s.name (codes "#GUID")) s.range i;
      blobs = either_or found.blobs (named (codes "#Blob") streams) (bytes_eq s.name (codes "#Blob")) s.range i;
      uncompressed = or_more found.uncompressed (bytes_eq s.name (codes "#-")) (list_any (λ stream. bytes_eq stream.name (codes "#-")) streams) i;
    } in with_both (noted found s) streams ∙ step

abbrev pub nothing_found : Found
nothing_found = record { tables = None; texts = None; users = None; guids = None; blobs = None; uncompressed = false }

-- from the first header on
pub from_nothing : (answer : Result (List Stream) ImageFault) → joined nothing_found answer ≡ all_found answer
unfolding both or_else
from_nothing (Ok streams) = ap (λ (f : Found). Ok f) (with_both nothing_found streams)
from_nothing (Err fault) = refl

joined_more : (found : Found) (stream : Stream) (others : Result (List Stream) ImageFault) → joined found (others >>= λ more. Ok (stream ∷ more)) ≡ joined (noted found stream) others
joined_more found stream (Ok others) = refl
joined_more found stream (Err fault) = refl

-- one header more
pub header_more : (bytes : List ℕ) (metadata : Range) (count i at : ℕ) (found : Found) (stream : Stream) (total : Result Found ImageFault) → i < count
    → header_at bytes metadata at ≡ Ok stream → joined found (headers bytes metadata (count - i) at) ≡ total
    → joined (noted found stream) (headers bytes metadata (count - (i + 1)) (behind_header at stream)) ≡ total
header_more bytes metadata count i at found stream total lt read h =
    let k : count - i ≡ suc (count - (i + 1)) = omega arith in
    sym (ap (λ (n : ℕ). joined found (headers bytes metadata n at)) k
    ∙ ap (λ (r : Result Stream ImageFault). joined found (r >>= λ s. headers bytes metadata (count - (i + 1)) (behind_header at s) >>= λ more. Ok (s ∷ more))) read
    ∙ joined_more found stream (headers bytes metadata (count - (i + 1)) (behind_header at stream))) ∙ h

-- a header with a fault
pub header_fault : (bytes : List ℕ) (metadata : Range) (count i at : ℕ) (found : Found) (fault : ImageFault) (total : Result Found ImageFault) → i < count
    → header_at bytes metadata at ≡ Err fault → joined found (headers bytes metadata (count - i) at) ≡ total → total ≡ Err fault
header_fault bytes metadata count i at found fault total lt read h =
    let k : count - i ≡ suc (count - (i + 1)) = omega arith in
    sym h ∙ ap (λ (n : ℕ). joined found (headers bytes metadata n at)) k
    ∙ ap (λ (r : Result Stream ImageFault). joined found (r >>= λ s. headers bytes metadata (count - (i + 1)) (behind_header at s) >>= λ more. Ok (s ∷ more))) read

-- no header more
pub header_none : (bytes : List ℕ) (metadata : Range) (count i at : ℕ) (found : Found) (total : Result Found ImageFault) → ¬ (i < count)
    → joined found (headers bytes metadata (count - i) at) ≡ total → total ≡ Ok found
header_none bytes metadata count i at found total done h =
    let k : count - i ≡ 0 = omega (arith, done) in
    sym h ∙ ap (λ (n : ℕ). joined found (headers bytes metadata n at)) k

-- what was found gives the five streams
by_found : (root : ℕ) (r : Result (List Stream) ImageFault) → (r >>= λ streams. streams_among root streams) ≡ (all_found r >>= λ found. streams_found root found)
by_found root (Ok streams) = refl
by_found root (Err fault) = refl

pub streams_by : (bytes : List ℕ) (root : Range) (found : Found) → root_of bytes ≡ Ok root → all_found (stream_headers bytes root) ≡ Ok found → streams_of bytes ≡ streams_found root.offset found
streams_by bytes root found at names =
    ap (λ (r : Result Range ImageFault). r >>= λ x. stream_headers bytes x >>= λ streams. streams_among x.offset streams) at
    ∙ by_found root.offset (stream_headers bytes root) ∙ ap (λ (r : Result Found ImageFault). r >>= λ x. streams_found root.offset x) names

-- ---- sections

pub section_here : (bytes : List ℕ) (count i first cell address size at : ℕ) (total : Result ℕ ImageFault) → i < count → held_at bytes first address size ≡ Some at
    → in_sections bytes (count - i) first cell address size ≡ total → total ≡ Ok at
section_here bytes count i first cell address size at total lt here h =
    let k : count - i ≡ suc (count - (i + 1)) = omega arith in
    sym h ∙ ap (λ (n : ℕ). in_sections bytes n first cell address size) k
    ∙ ap (λ (o : Option ℕ). or_further o (in_sections bytes (count - (i + 1)) (first + 40) cell address size)) here

pub section_further : (bytes : List ℕ) (count i first cell address size : ℕ) (total : Result ℕ ImageFault) → i < count → held_at bytes first address size ≡ None
    → in_sections bytes (count - i) first cell address size ≡ total → in_sections bytes (count - (i + 1)) (first + 40) cell address size ≡ total
section_further bytes count i first cell address size total lt here h =
    let k : count - i ≡ suc (count - (i + 1)) = omega arith in
    sym (ap (λ (n : ℕ). in_sections bytes n first cell address size) k
    ∙ ap (λ (o : Option ℕ). or_further o (in_sections bytes (count - (i + 1)) (first + 40) cell address size)) here) ∙ h
