pub mod Digits
pub mod Folds
pub mod Goes
pub mod Numerals
pub mod Written
