pub mod Tops
pub mod Counting
pub mod Holding
pub mod Agreeing
