pub mod Tests
pub mod Search
pub mod Named
pub mod Count
