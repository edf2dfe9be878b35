pub mod Causes
pub mod Connections
pub mod Memory
pub mod MemoryDoor
pub mod Moved
pub mod Plans
pub mod Reading
pub mod Writing
