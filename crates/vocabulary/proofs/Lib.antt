pub mod EveryOne
pub mod JoinedLists
pub mod MappedLists
pub mod Splits
