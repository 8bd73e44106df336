pub mod Seasons
pub mod Texts
