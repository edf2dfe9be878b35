mod Answering
mod Plainly
mod Taking
