pub mod Packed
pub mod Rule
pub mod Trip
pub mod Canonical
pub mod Single
pub mod Computed
