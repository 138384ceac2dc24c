pub mod Parts
pub mod Seated
