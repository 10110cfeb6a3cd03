pub mod Spelled
pub mod Parts
pub mod Tallies
pub mod Held
pub mod Reading
pub mod Verbs
pub mod Acts
