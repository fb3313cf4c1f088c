pub mod CodesLemmas
pub mod CountLemmas
pub mod TablesLemmas
