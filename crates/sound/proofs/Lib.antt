pub mod Digest
pub mod Halves
pub mod Seated
