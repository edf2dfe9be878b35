pub mod Escape
pub mod Words
pub mod Parts
pub mod Requests
pub mod RequestText
pub mod Served
pub mod ReplyLine
pub mod Texts
