pub mod Numerals
pub mod Cuts
pub mod Outcomes
pub mod Ranges
pub mod Orders
