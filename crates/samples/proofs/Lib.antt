pub mod SixteenBits
pub mod WritingFrames
