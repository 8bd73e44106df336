pub mod Begun
pub mod Held
pub mod Drafts
pub mod Divisions
pub mod Exact
pub mod Worked
