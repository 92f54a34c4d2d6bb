pub mod Root
pub mod Fused
pub mod Near
