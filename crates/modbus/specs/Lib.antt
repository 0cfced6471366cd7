pub mod Word
pub mod Crc
pub mod Frame
