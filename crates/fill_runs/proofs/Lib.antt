mod Counting
mod Cuts
pub mod Filling
pub mod MadeLines
mod Requests
mod Summing
mod Tallying
mod ToldRefusals
mod Uncounted
