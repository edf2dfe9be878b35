pub mod Covering
pub mod Larger
pub mod KeepingUp
pub mod FreeLines
pub mod NeverFull
pub mod Completing
pub mod FewChanges
