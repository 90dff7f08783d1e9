pub mod Loops
pub mod Streams
pub mod Verdicts
pub mod Outputs
