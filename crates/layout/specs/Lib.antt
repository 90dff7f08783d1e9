pub mod Header
pub mod Chunks
pub mod Outlines
pub mod Steps
