pub mod Reissues
