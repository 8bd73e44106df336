pub mod Alone
pub mod Meant
pub mod Chosen
