pub mod Loopback
