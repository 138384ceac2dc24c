pub mod Digest
pub mod Filled
