pub mod Named
pub mod Count
pub mod Entry
pub mod Promises
pub mod Unique
