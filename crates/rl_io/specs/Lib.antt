pub mod Causes
pub mod Adapters
pub mod InMemory
pub mod Whole
