pub mod Bounded
pub mod Noting
pub mod Opening
pub mod Pairing
pub mod Room
pub mod Steps
