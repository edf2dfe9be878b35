pub mod PartEnds
mod Firsts
mod Taking
