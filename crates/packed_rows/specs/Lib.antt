pub mod Entries
pub mod Stream
pub mod Packer
pub mod Answers
pub mod Comparing
pub mod Steps
pub mod ComparingSteps
pub mod Theorems
