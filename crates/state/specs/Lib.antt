pub mod Firmware
pub mod State
pub mod Validity
pub mod Lent
