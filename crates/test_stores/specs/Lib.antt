pub mod Refusing
pub mod Walks
