pub mod ReplacedDescription
