pub mod Splice
pub mod Number
