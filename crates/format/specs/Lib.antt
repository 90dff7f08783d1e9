pub mod Description
pub mod Encoding
pub mod WellFormed
pub mod Shown
pub mod Repacked
