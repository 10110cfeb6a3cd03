pub mod Naming
pub mod Moved
