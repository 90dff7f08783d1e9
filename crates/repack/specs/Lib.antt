pub mod Repacked
pub mod Steps
