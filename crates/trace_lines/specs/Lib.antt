pub mod Writers
pub mod Printing
