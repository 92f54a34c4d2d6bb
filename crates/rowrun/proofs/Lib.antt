pub mod Mapped
pub mod Printing
pub mod Put
pub mod Reading
