pub mod Act
pub mod Went
pub mod Fitting
