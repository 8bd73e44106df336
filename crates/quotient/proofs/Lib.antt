pub mod Search
pub mod Cut
pub mod Exponent
pub mod Preferred
pub mod Ways
pub mod Laws
pub mod Splits
