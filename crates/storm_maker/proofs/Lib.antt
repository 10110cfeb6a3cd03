pub mod Joined
pub mod Rows
pub mod Steps
pub mod Lengths
