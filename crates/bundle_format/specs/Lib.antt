pub mod Canonical
pub mod Formatted
pub mod Outcomes
pub mod Queues
pub mod Statuses
pub mod Woven
