pub mod EqualBytes
pub mod Listing
pub mod PutDifference
