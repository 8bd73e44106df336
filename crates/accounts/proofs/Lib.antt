pub mod Beside
pub mod Sums
pub mod Carried
pub mod Computed
