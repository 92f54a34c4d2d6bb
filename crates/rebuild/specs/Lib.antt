pub mod Supports
pub mod Rebuild
