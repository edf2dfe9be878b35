pub mod Beginnings
pub mod Views
pub mod Keeping
pub mod Entering
pub mod Joins
