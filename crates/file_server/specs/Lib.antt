pub mod Refusals
pub mod Opening
pub mod Ending
pub mod Running
pub mod Shelved
pub mod Kept
pub mod Returned
