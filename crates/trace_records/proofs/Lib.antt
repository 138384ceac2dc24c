pub mod Writing
pub mod Listing
