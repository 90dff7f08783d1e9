pub mod Replaced
pub mod Steps
