mod Names
pub mod Rules
pub mod Rows
mod Targets
mod Domains
mod Slots
mod Shadows
mod Bounds
pub mod Texts
mod TargetNames
mod Binds
mod Closed
mod CodeKept
pub mod TableTexts
mod Flat
mod TablesKept
mod Traits
mod ScriptLines
mod ScriptKinds
mod ScriptArgs
mod ScriptsKept
mod SizesKept
mod NamesKept
mod NamesApart
mod ShortBundles
mod DomainsKept
pub mod Accepting
