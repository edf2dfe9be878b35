pub mod Anchors
pub mod Closing
pub mod Items
pub mod Neighbours
pub mod Tally
pub mod Places
