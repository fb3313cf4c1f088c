-- The faults that readers of heaps find. An offset counts in the bytes that the reader was given.
use Rattle.md_schema.specs.Faults.{fault_at}
pub use Rattle.md_schema.specs.declared.faults.ImageFault.{ImageFault}
pub use Rattle.md_schema.specs.declared.faults.ImageKind.{ImageKind}
pub use Rattle.md_schema.specs.declared.faults.ImageKind.TheVariants.{HeapRange, HeapText, BadLength, BadLead, Short}

-- An index past its heap. It stands outside the heap, so its offset is 0.
abbrev pub past_heap : ImageFault
past_heap = fault_at HeapRange 0
