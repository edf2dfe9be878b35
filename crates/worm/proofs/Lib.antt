pub mod Rooms
pub mod Running
pub mod Filling
pub mod Serving
pub mod Answering
