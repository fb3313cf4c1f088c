pub mod StandsLemmas
pub mod NumberLemmas
pub mod ZeroLemmas
