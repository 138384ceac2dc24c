pub mod Behind
pub mod Arriving
pub mod Losing
