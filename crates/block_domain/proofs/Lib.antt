pub mod Following
pub mod Holding
pub mod Lines
pub mod ReadLaw
pub mod Reading
pub mod Spelled
pub mod Staged
pub mod Written
