mod FormLemmas
mod FoundLemmas
