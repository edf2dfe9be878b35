pub mod Children
pub mod Digits
pub mod FourWays
pub mod Hashing
pub mod Tables
pub mod TopBits
pub mod Firsts
