pub mod Lengths
pub mod Flat
pub mod Refusals
pub mod Written
pub mod Squares
pub mod Rules
pub mod Unique
pub mod Sizes
