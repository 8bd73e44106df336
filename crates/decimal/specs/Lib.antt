pub mod Numbers
pub mod Declets
pub mod Words
pub mod Worked
