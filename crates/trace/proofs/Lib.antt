pub mod Running
pub mod Telling
pub mod Whole
