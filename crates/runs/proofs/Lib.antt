pub mod Posted
pub mod Follows
