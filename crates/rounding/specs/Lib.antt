pub mod Flags
pub mod Rounding
pub mod Modes
