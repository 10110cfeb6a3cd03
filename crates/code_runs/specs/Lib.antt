pub mod Answered
pub mod Entered
pub mod Seen
pub mod Suits
pub mod Wants
