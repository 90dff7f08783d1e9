pub mod Rewritten
pub mod LengthBefore
pub mod WritingBlock
pub mod PassingPatterns
pub mod WritingModule
pub mod RewrittenChunks
pub mod Accepting
