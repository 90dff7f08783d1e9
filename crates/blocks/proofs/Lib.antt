pub mod Passing
pub mod Leading
pub mod BlockSizes
pub mod Walking
