pub mod Digits
pub mod Packed
pub mod Beginnings
pub mod Padding
pub mod Parts
pub mod Joined
pub mod ShortWords
pub mod Anchored
