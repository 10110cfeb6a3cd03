pub mod Finished
pub mod Going
