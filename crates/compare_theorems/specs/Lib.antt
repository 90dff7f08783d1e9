pub mod Differs
pub mod ReplacedDiffers
