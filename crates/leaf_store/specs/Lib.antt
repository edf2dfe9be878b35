pub mod Leaf
pub mod Lent
pub mod Tag
pub mod Order
pub mod Rows
pub mod Ranks
