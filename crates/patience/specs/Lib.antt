pub mod Patience
pub mod Scans
