pub mod Conditions
pub mod Hashes
pub mod Orders
pub mod Ranks
pub mod Separators
