pub mod Stepping
pub mod Carrying
