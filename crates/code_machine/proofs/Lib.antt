pub mod ByPlace
pub mod Naming
pub mod Going
pub mod Keeping
pub mod Entering
pub mod Answering
