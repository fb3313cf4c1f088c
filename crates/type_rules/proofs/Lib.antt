pub mod RuleOrder
pub mod Answering
