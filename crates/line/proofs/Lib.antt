pub mod Select
pub mod Reduction
pub mod Pairs
pub mod Named
pub mod Count
pub mod Rules
pub mod Unique
