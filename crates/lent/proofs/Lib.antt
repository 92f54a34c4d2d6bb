pub mod Demands
pub mod Prefix
pub mod Unique
