pub mod SayLemmas
pub mod EndLemmas
mod SourceLaws
mod SetLemmas
mod OwedLemmas
mod MergeLemmas
mod CommandLemmas
mod WordsOwed
