pub mod Number
pub mod Marks
pub mod Options
pub mod Verbs
pub mod Commands
pub mod Places
pub mod Reading
