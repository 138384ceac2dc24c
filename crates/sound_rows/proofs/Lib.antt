pub mod Bits
pub mod Counted
pub mod Sound
pub mod Packed
pub mod Flags
pub mod First
