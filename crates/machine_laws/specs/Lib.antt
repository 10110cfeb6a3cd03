pub mod Ledger
pub mod LedgerRows
pub mod LedgerSound
pub mod LedgerOf
pub mod Shape
pub mod Registers
pub mod Fitting
pub mod AtCall
