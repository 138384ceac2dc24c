pub mod Idle
pub mod Weights
