pub mod Bytes
pub mod Shape
pub mod Layout
pub mod Decode
pub mod Padded
pub mod Parts
pub mod VecRows
