pub mod Names
pub mod Standing
pub mod Opened
pub mod Calls
pub mod Restored
pub mod Refusals
pub mod BackedUp
pub mod Putting
