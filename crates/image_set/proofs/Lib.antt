mod TurnLemmas
mod LoopLemmas
pub mod OutcomeLaws
