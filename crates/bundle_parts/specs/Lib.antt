pub mod Headers
pub mod Cuts
pub mod Parts
pub mod Laws
