pub mod ReplacedChunks
pub mod WritingInstruments
pub mod WritingSample
pub mod ReplacedBytes
pub mod Accepting
pub mod Placing
pub mod Answering
