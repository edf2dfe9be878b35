mod Looking
mod Joining
mod Forking
