pub mod StoredFields
pub mod Sizes
pub mod Filling
pub mod RecordKinds
