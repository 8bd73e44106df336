pub mod Sources
pub mod Layers
pub mod Worked
pub mod Steps
pub mod Division
pub mod Leading
