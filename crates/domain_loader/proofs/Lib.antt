pub mod Composing
pub mod Sizes
pub mod Apart
pub mod Loads
pub mod Behind
pub mod Accepting
pub mod OneLoad
