pub mod Scaling
pub mod Bracket
pub mod Begun
pub mod Computed
pub mod Exact
