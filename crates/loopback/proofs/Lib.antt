pub mod Back
pub mod Owned
pub mod Room
