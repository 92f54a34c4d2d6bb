pub mod Rules
pub mod Named
pub mod Count
pub mod Onward
