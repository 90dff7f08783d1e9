pub mod Answering
pub mod Numbering
