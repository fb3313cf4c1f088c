-- A heap as its callers see it: its bytes, and what was interned, as a map from each content to its index.
use Rattle.std.specs.Prelude.{◌≡◌, ℕ, ◌+◌, List, ◌++◌, length, take, drop, Option, Some}
use Rattle.std.specs.Ordering.{nat_cmp}
use Rattle.std.specs.Cmp.Lexicographic.{slice_cmp}
use Rattle.std.specs.Coded.{Coded, code_by, coded×, coded_ℕ, coded_list}
use Rattle.std.specs.FinMap.{FinMap, get, insert, code}

-- the index of each content that was interned
abbrev pub Indices : Type 0
Indices = FinMap {K = List ℕ} (slice_cmp nat_cmp) ℕ

pub record Heap : Type 0 where
  pub bytes : List ℕ
  pub entries : Indices

abbrev pub heap_code : Coded Heap
heap_code =
    code_by (List ℕ × Indices) (coded× (coded_list coded_ℕ) (code (coded_list coded_ℕ) coded_ℕ)) (λ h. (h.bytes, h.entries)) (λ p. record { bytes = p.0; entries = p.1 }) (λ h i. h)

-- the index of this content, if it was interned
abbrev pub index_of : Heap → List ℕ → Option ℕ
index_of heap content = get heap.entries content

-- the heap with an entry more, whose bytes go to the end
abbrev pub with_entry : Heap → List ℕ → List ℕ → ℕ → Heap
with_entry heap content written index = record { bytes = heap.bytes ++ written; entries = insert heap.entries content index }

-- the length that the heap would have with these bytes at its end
abbrev pub length_with : Heap → List ℕ → ℕ
length_with heap written = length heap.bytes + length written

-- these bytes stand at the place
abbrev pub StandsAt : List ℕ → ℕ → List ℕ → Type 0
StandsAt bytes place part = take (length part) (drop place bytes) ≡ part

-- what was interned is, by this reading of the bytes, at its index
abbrev pub EachStands : (List ℕ → ℕ → List ℕ → Type 0) → Heap → Type 0
EachStands At heap = (content : List ℕ) (index : ℕ) → index_of heap content ≡ Some index → At heap.bytes index content

-- what the old heap has stays: its bytes, and each entry at its index
pub record Keeps (old : Heap) (new : Heap) : Type 0 where
  pub bytes : take (length old.bytes) new.bytes ≡ old.bytes
  pub entries : (content : List ℕ) (index : ℕ) → index_of old content ≡ Some index → index_of new content ≡ Some index
