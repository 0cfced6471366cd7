pub mod Table
pub mod Groups
