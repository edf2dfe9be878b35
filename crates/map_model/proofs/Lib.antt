pub mod AroundKeys
pub mod Cuts
pub mod Filters
pub mod Finds
pub mod Growing
pub mod Halves
pub mod Histories
pub mod Kept
pub mod KeptCalls
pub mod Lengths
mod Pages
pub mod Parts
pub mod Places
pub mod PlainHistories
