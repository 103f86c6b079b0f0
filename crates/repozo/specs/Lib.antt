pub mod Index
pub mod BadLines
pub mod Pieces
pub mod Disks
pub mod Whole
pub mod Refusals
pub mod Worked
