pub mod Table
pub mod Reserved
