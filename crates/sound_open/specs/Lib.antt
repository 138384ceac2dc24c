pub mod Digest
pub mod Open
pub mod Filled
