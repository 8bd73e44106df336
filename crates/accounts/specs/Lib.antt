pub mod Exact
pub mod Account
pub mod Law
pub mod Worked
