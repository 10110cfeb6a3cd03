pub mod Calls
pub mod Deeds
pub mod DiskCalls
pub mod DiskLayout
pub mod FileLaws
pub mod FileTable
pub mod ReplyCodes
pub mod Worked
