pub mod Calls
pub mod Counting
pub mod Ends
pub mod Spread
pub mod Tending
