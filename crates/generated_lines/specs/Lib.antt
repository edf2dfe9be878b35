pub mod Generator
pub mod Source
