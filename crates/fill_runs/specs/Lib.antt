pub mod Fills
pub mod Summary
pub mod Tallies
