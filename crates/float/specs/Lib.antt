pub mod Operators
pub mod Float
