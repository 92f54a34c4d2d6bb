pub mod Constants
pub mod Refusals
pub mod Rows
pub mod Kept
