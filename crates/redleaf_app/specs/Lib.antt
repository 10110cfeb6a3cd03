pub mod Digits
pub mod Statuses
pub mod Commands
pub mod Outcomes
pub mod Replies
