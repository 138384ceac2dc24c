pub mod Fitting
pub mod Happening
pub mod Keeping
pub mod Registering
pub mod Turning
