pub mod Handing
pub mod Ahead
