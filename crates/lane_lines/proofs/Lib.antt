pub mod Numbers
pub mod Dealing
pub mod Spaces
