pub mod Asked
pub mod Plain
pub mod Replies
pub mod Scans
pub mod Sessions
pub mod Transcripts
pub mod Turns
pub mod Writes
