pub mod Watching
pub mod Whole
