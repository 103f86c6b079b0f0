pub mod Escapes
pub mod Looks
pub mod Runs
pub mod Blocks
pub mod Sizes
pub mod Spaces
