pub mod Choice
pub mod Pushes
pub mod Strides
