pub mod Byte
pub mod Texts
pub mod Listening
pub mod Kept
pub mod Alike
pub mod Placed
pub mod Places
pub mod Turns
