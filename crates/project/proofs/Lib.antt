pub mod Count
pub mod Attempts
pub mod Cuts
