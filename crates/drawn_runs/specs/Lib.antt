pub mod Drawing
pub mod Messages
pub mod Rounds
pub mod Worked
