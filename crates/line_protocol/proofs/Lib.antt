pub mod Again
pub mod Escapes
pub mod Limits
pub mod OneLine
pub mod PlainLines
pub mod Serving
pub mod Sought
pub mod Splits
