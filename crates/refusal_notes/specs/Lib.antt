pub mod Keeping
pub mod Notes
