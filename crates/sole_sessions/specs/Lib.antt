pub mod PlainHistory
pub mod Rooms
pub mod SoleSessions
