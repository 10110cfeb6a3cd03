pub mod Numbers
pub mod Words
pub mod Refusals
mod ObjectsLeft
mod Natives
