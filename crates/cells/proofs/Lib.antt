pub mod Notes
pub mod Theorems
