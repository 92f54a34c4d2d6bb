pub mod Stream
pub mod Runs
