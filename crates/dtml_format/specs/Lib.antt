pub mod Shaping
pub mod Replaced
pub mod Worked
