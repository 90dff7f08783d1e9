pub mod Records
pub mod Reported
pub mod Steps
