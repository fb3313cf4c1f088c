pub mod StandLaws
pub mod SumLaws
pub mod EarlierLaws
