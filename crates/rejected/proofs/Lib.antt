pub mod Rejected
