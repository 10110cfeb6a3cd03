pub mod Pairing
pub mod Named
pub mod Seeing
pub mod Answering
pub mod Entering
