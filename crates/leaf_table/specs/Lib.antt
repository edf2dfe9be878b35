pub mod Table
pub mod Changes
pub mod Leaves
pub mod Facts
pub mod Places
