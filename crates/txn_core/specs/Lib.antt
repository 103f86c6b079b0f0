pub mod Passing
pub mod Slots
pub mod StepLines
pub mod Counting
pub mod Cores
pub mod Crashing
pub mod Replying
pub mod Growing
