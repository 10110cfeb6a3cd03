pub mod Created
pub mod FileLaws
