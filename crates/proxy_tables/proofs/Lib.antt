pub mod Methods
pub mod Types
pub mod Moving
pub mod Scanning
pub mod Building
pub mod TableLaws
