pub mod Constants
pub mod Examples
pub mod Rules
pub mod Returns
pub mod Outcomes
pub mod Values
pub mod Named
pub mod Demands
