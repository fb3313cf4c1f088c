pub mod SpelledLaws
pub mod PathLaws
