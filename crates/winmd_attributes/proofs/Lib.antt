pub mod ValueLaws
pub mod EachLaws
pub mod ListLaws
