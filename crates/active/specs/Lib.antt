pub mod Active
pub mod Collector
