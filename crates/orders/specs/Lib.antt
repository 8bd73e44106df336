pub mod Desks
pub mod Laws
