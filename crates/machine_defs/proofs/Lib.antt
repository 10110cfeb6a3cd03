pub mod CodeRegisters
pub mod CodeStands
pub mod CodeWidths
pub mod CodeSafe
pub mod CodeAnswers
pub mod CodeEntries
pub mod CodeTypes
pub mod TurnsTold
