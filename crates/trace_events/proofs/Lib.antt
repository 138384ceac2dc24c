pub mod Calling
pub mod Keeping
