pub mod Address
pub mod Reading
