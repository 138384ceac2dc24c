pub mod Losing
