pub mod Clauses
pub mod Every
pub mod Firmwares
