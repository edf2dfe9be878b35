pub mod Steady
pub mod Causes
pub mod Numbers
