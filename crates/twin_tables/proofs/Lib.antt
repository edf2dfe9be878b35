pub mod Viewing
pub mod Turning
pub mod Sweeping
pub mod Reading
