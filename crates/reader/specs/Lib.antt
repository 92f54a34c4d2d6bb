pub mod Reader
pub mod Parts
