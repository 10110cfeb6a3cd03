pub mod Wrapped
pub mod Types
pub mod Lines
pub mod Parts
pub mod Writable
pub mod Laws
pub mod IdlCanonical
