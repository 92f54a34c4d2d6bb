pub mod Written
pub mod Decimal
pub mod Hex
pub mod Lengths
pub mod Sample
