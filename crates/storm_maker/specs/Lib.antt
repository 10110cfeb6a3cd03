pub mod Draws
pub mod Fixed
pub mod StormText
