-- A blob that is written stands at its index, and stays.
use Rattle.std.proofs.Common.{◌≡◌, ℕ, ◌+◌, ◌^◌, ◌<◌, Bool, true, false, cond, ltb, List, [], ◌∷◌, ◌++◌, length, Ok, Err, refl, arith, length-append, inl, inr}
use Rattle.std.proofs.lemmas.Grind.{common_steps}
use Rattle.std.proofs.lemmas.Bool.{cases_lt, lt-ltb, le-ltb}
use Rattle.byteorder.specs.Endian.{big_bytes}
use Rattle.byteorder.specs.Numbers.{big_from-append}
use borrow.Author.Tests.{ltb-true}
use Rattle.md_heaps.specs.Faults.{BadLead}
use Rattle.md_schema.specs.Faults.{fault_at}
use Rattle.md_heaps.specs.Integers.{compressed_of, in_bytes, shortest}
use Rattle.md_heaps.specs.Blobs.{BlobHere, blob_bytes}
use Rattle.md_heaps.proofs.HeapLaws.{stands_grows}

in_bytes_grows : (size lead : ℕ) (bytes more : List ℕ) (value count : ℕ) → in_bytes size lead bytes ≡ Ok (value, count) → in_bytes size lead (bytes ++ more) ≡ Ok (value, count)
in_bytes_grows size lead bytes more value count h =
    elim (cases_lt (length bytes) size) [
      | inl cut ↦ absurd (let test = lt-ltb _ _ cut in let e = rw test at h in cc)
      | inr enough ↦
          (let short : ltb (length bytes) size ≡ false = le-ltb _ _ enough in
          let long : ltb (length (bytes ++ more)) size ≡ false = le-ltb _ _ (omega (arith, length-append bytes more)) in
          rw (long, big_from-append size bytes more enough) (rw short at h))
    ]

-- an integer that is read is read also with more behind it
pub compressed_grows : (bytes more : List ℕ) (value size : ℕ) → compressed_of bytes ≡ Ok (value, size) → compressed_of (bytes ++ more) ≡ Ok (value, size)
compressed_grows [] more value size h = absurd cc
compressed_grows (a ∷ bytes) more value size h = by (ltb a 0x80) (ltb a 0xC0) (ltb a 0xE0) h
  where
    by : (x y z : Bool)
        → cond x (in_bytes 1 0 (a ∷ bytes)) (cond y (in_bytes 2 0x8000 (a ∷ bytes)) (cond z (in_bytes 4 0xC0000000 (a ∷ bytes)) (Err (fault_at BadLead 0)))) ≡ Ok (value, size)
        → cond x (in_bytes 1 0 (a ∷ (bytes ++ more))) (cond y (in_bytes 2 0x8000 (a ∷ (bytes ++ more))) (cond z (in_bytes 4 0xC0000000 (a ∷ (bytes ++ more))) (Err (fault_at BadLead 0)))) ≡ Ok (value, size)
    by true y z h = in_bytes_grows 1 0 (a ∷ bytes) more value size h
    by false true z h = in_bytes_grows 2 0x8000 (a ∷ bytes) more value size h
    by false false true h = in_bytes_grows 4 0xC0000000 (a ∷ bytes) more value size h
    by false false false h = absurd cc

one_read : (value : ℕ) (rest : List ℕ) → value < 0x80 → compressed_of (big_bytes 1 value ++ rest) ≡ Ok (value, 1)
one_read value rest small = grind (arith, common_steps)

two_read : (value : ℕ) (rest : List ℕ) → value < 0x4000 → compressed_of (big_bytes 2 (0x8000 + value) ++ rest) ≡ Ok (value, 2)
two_read value rest small = grind (arith, common_steps)

four_read : (value : ℕ) (rest : List ℕ) → value < 2 ^ 29 → compressed_of (big_bytes 4 (0xC0000000 + value) ++ rest) ≡ Ok (value, 4)
four_read value rest small = grind (arith, common_steps)

-- the shortest form is read
pub shortest_read : (value : ℕ) (rest : List ℕ) → value < 2 ^ 29 → compressed_of (shortest value ++ rest) ≡ Ok (value, length (shortest value))
shortest_read value rest small = by (ltb value 0x80) refl (ltb value 0x4000) refl
  where
    by : (x : Bool) → ltb value 0x80 ≡ x → (y : Bool) → ltb value 0x4000 ≡ y
        → compressed_of (cond x (big_bytes 1 value) (cond y (big_bytes 2 (0x8000 + value)) (big_bytes 4 (0xC0000000 + value))) ++ rest)
        ≡ Ok (value, length (cond x (big_bytes 1 value) (cond y (big_bytes 2 (0x8000 + value)) (big_bytes 4 (0xC0000000 + value)))))
    by true is y _ = one_read value rest (ltb-true _ _ is)
    by false _ true is = two_read value rest (ltb-true _ _ is)
    by false _ false _ = four_read value rest small

pub here_grows : (bytes more blob : List ℕ) (at : ℕ) → BlobHere bytes at blob → BlobHere (bytes ++ more) at blob
here_grows bytes more blob at h = stands_grows bytes more (blob_bytes blob) at h
