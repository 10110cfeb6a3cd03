pub mod Names
pub mod Rules
pub mod Scan
pub mod Built
pub mod Laws
