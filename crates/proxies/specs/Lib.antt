pub mod Table
pub mod Crossing
pub mod Reentry
pub mod Objects
