pub mod AbiCounts
