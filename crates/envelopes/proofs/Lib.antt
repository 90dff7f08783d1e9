mod AllPoints
pub mod Scaling
mod Records
