pub mod WeightLaws
pub mod PastLaws
