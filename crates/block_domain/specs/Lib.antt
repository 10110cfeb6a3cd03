pub mod Driver
pub mod Laws
pub mod Store
pub mod Texts
