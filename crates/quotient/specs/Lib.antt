pub mod Search
pub mod Quotients
pub mod Laws
pub mod Drafts
pub mod Splits
