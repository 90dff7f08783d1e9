pub mod ChunksBefore
pub mod Walking
pub mod Outlining
pub mod Others
