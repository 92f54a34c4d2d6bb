pub mod Rules
pub mod Count
pub mod Turns
