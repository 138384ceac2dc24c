pub mod Losing
pub mod Judging
