pub mod Laws
pub mod Gives
pub mod Bounds
