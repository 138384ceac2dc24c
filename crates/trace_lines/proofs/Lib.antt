pub mod Digits
pub mod Totals
pub mod Writers
