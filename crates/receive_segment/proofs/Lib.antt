pub mod Arriving
pub mod Weighing
